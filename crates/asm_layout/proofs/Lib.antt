pub mod PlacesLaws
pub mod LabelsLemmas
pub mod PassesLemmas
pub mod RoomLaws
pub mod DelaySlotsLemmas
