pub mod DealtKeys
