pub mod TextsRead
pub mod MoreFollowers
pub mod ListedFollowers
pub mod AskedRows
