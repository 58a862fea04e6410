pub mod StepsReading
pub mod Texts
