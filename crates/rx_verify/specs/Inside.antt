-- What contracts of private functions say; a reader of the public contracts needs none of it.
-- What contracts of private functions say; a reader of the public contract needs none of it.
pub mod Rows
pub mod Steps
pub mod Requests
pub mod Admitted
pub mod Deciding
pub mod Admits
pub mod Grants
pub mod Granting
pub mod Passing
