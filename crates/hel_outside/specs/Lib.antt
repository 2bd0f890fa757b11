pub mod Faults
pub mod Calls
pub mod MemFiles
pub mod MemSink
pub mod RealFiles
