pub mod Unplaced
pub mod Anywhere
pub mod SpotsOfGoals
pub mod SpotsFollow
pub mod OnePlace
