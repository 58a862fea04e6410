-- What a recording does: its films' lanes, their halves and places, all its threads, and the boxes.
pub mod Answers
pub mod Backs
pub mod Boxes
pub mod Halves
pub mod Lanes
pub mod Recordings
