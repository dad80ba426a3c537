pub mod Names
pub mod Texts
pub mod KeyName
pub mod Laws
pub mod Keys
