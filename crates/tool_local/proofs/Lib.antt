pub mod LocalLookUp
