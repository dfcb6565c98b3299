-- What a program does: the paths that its instructions lead along.
use Rattle.std.specs.Prelude.{◌≡◌, ◌≢◌, ℕ, ◌+◌, ◌%◌, ◌^◌, List, [], ◌∷◌, ◌++◌, Some, slice_get}
use Rattle.mem_op.specs.Consistency.{Operation, Loaded, Stored, Swapped}
use Rattle.core_program.specs.declared.instruction.Instruction.{Instruction}
use Rattle.core_program.specs.declared.instruction.Instruction.TheVariants as instruction
use Rattle.core_program.specs.State.{State, reg, with_reg, further}

-- the state's next instruction is this one
abbrev pub IsNext : List Instruction → State → Instruction → Type 0
IsNext program s next = slice_get program s.position ≡ Some next

-- `Path program s operations t`: from s the program performs these operations, in this order, and comes to t.
pub data Path (program : List Instruction) (s : State) : List Operation → State → Type 0 where
  stays : Path program s [] s
  -- a load puts the word that it reads into its register, whatever that word is
  loads : (done : List Operation) (t : State) (to addr value : ℕ) → Path program s done t → IsNext program t (instruction.Load to addr) →
      Path program s (done ++ Loaded addr value ∷ []) (further 1 (with_reg t to value))
  stores : (done : List Operation) (t : State) (addr value : ℕ) → Path program s done t → IsNext program t (instruction.Store addr value) →
      Path program s (done ++ Stored addr value ∷ []) (further 1 t)
  stores_register : (done : List Operation) (t : State) (addr from : ℕ) → Path program s done t → IsNext program t (instruction.StoreRegister addr from) →
      Path program s (done ++ Stored addr (reg t from) ∷ []) (further 1 t)
  -- a swap puts the word that it reads into its register, whatever that word is
  swaps : (done : List Operation) (t : State) (to addr value read : ℕ) → Path program s done t → IsNext program t (instruction.Swap to addr value) →
      Path program s (done ++ Swapped addr read value ∷ []) (further 1 (with_reg t to read))
  -- the other instructions touch no memory
  adds : (done : List Operation) (t : State) (to from value : ℕ) → Path program s done t → IsNext program t (instruction.Add to from value) →
      Path program s done (further 1 (with_reg t to ((reg t from + value) % 2 ^ 64)))
  skips : (done : List Operation) (t : State) (tested skip : ℕ) → Path program s done t → IsNext program t (instruction.SkipIfZero tested skip) → reg t tested ≡ 0 →
      Path program s done (further (1 + skip) t)
  goes_on : (done : List Operation) (t : State) (tested skip : ℕ) → Path program s done t → IsNext program t (instruction.SkipIfZero tested skip) → reg t tested ≢ 0 →
      Path program s done (further 1 t)
