pub mod Printed
pub mod Wrote
pub mod Unique
pub mod ReadRows
pub mod WriteRows
pub mod RoundTrip
pub mod LineRows
