-- What private functions tell.
use Rattle.std.specs.Prelude.{List, [], ◌∷◌, Option, Some, None}
use Rattle.std.specs.Global.{Vec}
use Rattle.refutation.specs.declared.fact.Fact.{Fact}

-- these facts are given; None says that no list of facts is, not even the empty one
abbrev pub TellsGiven : (List Fact → Type 0) → Option (Vec Fact) → Type 0
TellsGiven Given None = (given : List Fact) → Given given → ⊥
TellsGiven Given (Some facts) = Given facts.items

-- this one fact is given; None says that no list of facts is
abbrev pub TellsOne : (List Fact → Type 0) → Option Fact → Type 0
TellsOne Given None = (given : List Fact) → Given given → ⊥
TellsOne Given (Some fact) = Given (fact ∷ [])
