pub mod DeathRuns
pub mod DeathRefusals
pub mod PlaceRuns
mod StatementRuns
