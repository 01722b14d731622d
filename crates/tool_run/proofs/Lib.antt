pub mod PeersTell
pub mod Executed
pub mod OpenedReply
pub mod Retrieved
pub mod FetchedRecord
