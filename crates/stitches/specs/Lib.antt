-- What the contracts of stitching cite.
pub mod Stitch
pub mod Restitch
