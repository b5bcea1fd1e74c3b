pub mod SampleTable
