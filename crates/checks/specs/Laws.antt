-- What follows where no check fails: the law of the table rests on it, so it stands here and not in proofs/.
pub mod Inside
pub mod Offsets
pub mod Sound
