-- The names of what is one of a few.
use Rattle.std.specs.Prelude.{ℕ, List, [], ◌∷◌, map, codes, Option, Some, None, if◌then◌else◌}
use Rattle.std.specs.Str.{bytes_eq}
use Rattle.kmp_base.specs.declared.setup.MachineKind.{MachineKind}
use Rattle.kmp_base.specs.declared.setup.MachineKind.TheVariants as machines
use Rattle.kmp_base.specs.declared.setup.Policy.{Policy}
use Rattle.kmp_base.specs.declared.setup.Policy.TheVariants as policies
use Rattle.kmp_base.specs.declared.setup.Turns.{Turns}
use Rattle.kmp_base.specs.declared.setup.Turns.TheVariants as turns

-- the first value of a table whose name a text is
abbrev pub named : {X : Type 0} → List (List ℕ × X) → List ℕ → Option X
named [] text = None
named (entry ∷ table) text = if bytes_eq entry.0 text then Some entry.1 else named table text

-- each of some values with its name
abbrev pub with_names : {X : Type 0} → (X → List ℕ) → List X → List (List ℕ × X)
with_names name values = map (λ value. (name value, value)) values

abbrev pub machine_name : MachineKind → List ℕ
machine_name machines.Plain = codes "plain"
machine_name machines.Pipe = codes "pipe"
machine_name machines.Full = codes "full"

abbrev pub policy_name : Policy → List ℕ
policy_name policies.Fifo = codes "fifo"
policy_name policies.Fixed = codes "fixed"
policy_name policies.Round = codes "round"
policy_name policies.Seeded = codes "seeded"

abbrev pub every_policy : List Policy
every_policy = policies.Fifo ∷ policies.Fixed ∷ policies.Round ∷ policies.Seeded ∷ []

abbrev pub turns_name : Turns → List ℕ
turns_name turns.Round = codes "round"
turns_name turns.Seeded = codes "seeded"
turns_name turns.Threads = codes "threads"

abbrev pub every_turns : List Turns
every_turns = turns.Round ∷ turns.Seeded ∷ turns.Threads ∷ []
