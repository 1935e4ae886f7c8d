pub mod AcceptedLaws
pub mod RoomLaws
pub mod GivenLaws
pub mod LimitFacts
pub mod LeavingLaws
