-- Entries that lead, one by one, from one state to another.
use Rattle.std.specs.Prelude.{◌≡◌, List, [], ◌∷◌}

-- `step` says whether an entry may lead from one state to another
abbrev pub Leads : {S E : Type 0} → (S → E → S → Type 0) → S → List E → S → Type 0
Leads step s [] t = t ≡ s
Leads {S} step s (e ∷ es) t = (m : S) × step s e m × Leads step m es t
