-- What follows from the definitions: contracts and the law of the table rest on it, so it stands here and not in proofs/.
pub mod Sums
pub mod Runs
pub mod Told
pub mod Rules
