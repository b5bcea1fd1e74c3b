pub mod SamplePlant
