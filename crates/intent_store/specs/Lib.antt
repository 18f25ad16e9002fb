-- What contracts say of memory whose words are stored one by one, of an area's intent, and of the kernel that runs.
pub mod Blocks
pub mod Payloads
pub mod Live
pub mod OfMemory
