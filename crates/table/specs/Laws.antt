-- The law of the table as a model rests on these, so they stand here and not in proofs/.
pub mod Meaning
pub mod Nothing
pub mod Telling
pub mod Holding
