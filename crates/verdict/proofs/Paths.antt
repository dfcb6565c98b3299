-- A path of one operation and more is a path of the one, and then one of the rest.
use Rattle.std.specs.Prelude.{◌≡◌, List, [], ◌∷◌, ◌++◌}
use Rattle.std.proofs.Common.{subst, ap}
use Rattle.mem_op.specs.Consistency.{Operation, Loaded, Stored, Swapped}
use Rattle.core_program.specs.declared.instruction.Instruction.{Instruction}
use Rattle.core_program.specs.State.{State}
use Rattle.core_program.specs.Meaning.{Path, stays, loads, stores, stores_register, swaps, adds, skips, goes_on}

-- a path of the first operation, and one of the rest
pub record Halves (program : List Instruction) (s : State) (first : Operation) (rest : List Operation) (t : State) : Type 0 where
  pub middle : State
  pub before : Path program s (first ∷ []) middle
  pub behind : Path program middle rest t

-- the halves of a path with a last operation: it is the first one itself, or it is behind it
more : (program : List Instruction) (s : State) (first : Operation) (rest done : List Operation) (last : Operation) (t u : State) → done ++ last ∷ [] ≡ first ∷ rest
    → Path program s done t
    → ((xs : List Operation) → (m : State) → Path program m xs t → Path program m (xs ++ last ∷ []) u)
    → ((ys : List Operation) → done ≡ first ∷ ys → Halves program s first ys t) → Halves program s first rest u
more program s first rest [] last t u e path step halves =
    let same : last ≡ first = cc in
    let none : [] ≡ rest = cc in
    subst (λ (r : List Operation). Halves program s first r u) none
    (record { middle = u; before = subst (λ (x : Operation). Path program s (x ∷ []) u) same (step [] s path); behind = stays })
more program s first rest (d ∷ ds) last t u e path step halves =
    let same : d ≡ first = cc in
    let grown : ds ++ last ∷ [] ≡ rest = cc in
    let h = halves ds (ap (λ x. x ∷ ds) same) in
    subst (λ (r : List Operation). Halves program s first r u) grown (record { middle = h.middle; before = h.before; behind = step ds h.middle h.behind })

pub halves : (program : List Instruction) (s : State) (ops : List Operation) (u : State) → Path program s ops u → (first : Operation) (rest : List Operation) → ops ≡ first ∷ rest → Halves program s first rest u
halves program s ops u stays first rest e = absurd cc
halves program s ops u (loads done t to addr value path next) first rest e =
    more program s first rest done (Loaded addr value) t u e path (λ xs m p. loads xs t to addr value p next) (λ ys is. halves program s done t path first ys is)
halves program s ops u (stores done t addr value path next) first rest e =
    more program s first rest done (Stored addr value) t u e path (λ xs m p. stores xs t addr value p next) (λ ys is. halves program s done t path first ys is)
halves program s ops u (stores_register done t addr from path next) first rest e =
    more program s first rest done _ t u e path (λ xs m p. stores_register xs t addr from p next) (λ ys is. halves program s done t path first ys is)
halves program s ops u (swaps done t to addr value read path next) first rest e =
    more program s first rest done (Swapped addr read value) t u e path (λ xs m p. swaps xs t to addr value read p next) (λ ys is. halves program s done t path first ys is)
halves program s ops u (adds done t to from value path next) first rest e =
    let h = halves program s done t path first rest e in
    record { middle = h.middle; before = h.before; behind = adds rest t to from value h.behind next }
halves program s ops u (skips done t tested skip path next zero) first rest e =
    let h = halves program s done t path first rest e in
    record { middle = h.middle; before = h.before; behind = skips rest t tested skip h.behind next zero }
halves program s ops u (goes_on done t tested skip path next other) first rest e =
    let h = halves program s done t path first rest e in
    record { middle = h.middle; before = h.before; behind = goes_on rest t tested skip h.behind next other }
