-- What contracts of private functions say, and that the moments of joins can stand in order; a reader of the public contracts needs
-- none of it.
pub mod Rising
pub mod Taking
