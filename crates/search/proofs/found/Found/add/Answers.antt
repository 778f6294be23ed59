use Rattle.search.proofs.Adding.{room, listed_more, grown_added}
use Rattle.search.proofs.found.Found.add.Goals as goal

pub bounds-self-inside-self-inside : goal.bounds-self-inside-self-inside
bounds-self-inside-self-inside c = room _ _ _ _ c.self.told.0 c.self.told.1 c.requires c.self.invariant c.if-not-self-s.true

pub invariant_of-self : goal.invariant_of-self
invariant_of-self c = listed_more _ _ _ _ c.self.told.0 c.self.told.1 c.requires c.self.invariant c.if-not-self-s.true

pub returns-then-not-self-s : goal.returns-then-not-self-s
returns-then-not-self-s c = rw (← c.self.view_is) (grown_added _ _ _ _ c.self.told.0 c.self.told.1 c.requires c.self.invariant c.if-not-self-s.true _)
