pub mod Meant
pub mod FewKeys
