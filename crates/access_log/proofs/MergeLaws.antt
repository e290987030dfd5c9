-- A history that memory allows, and that each core makes by itself, is a run of the machine.
use Rattle.std.proofs.Common.{◌≡◌, ℕ, ◌*◌, ◌<◌, List, [], ◌∷◌, length, refl, ap, sym, subst, ◌∙◌, inl, inr}
use Rattle.std.specs.Prelude.{true, Some, slice_get, slice_set}
use Rattle.std.specs.List.{AllByRecursion}
use Rattle.std.proofs.lemmas.Option.{none-some, same_Some, option_and_then_some}
use Rattle.std.proofs.lemmas.Bool.{eqb-true, eq-eqb, ne_eqb, cases_eq}
use Rattle.std.proofs.lemmas.List.{length-set}
use Rattle.std_laws.proofs.ListLaws.{slice_get_some, slice_get-set_same, slice_get-set_other}
use Rattle.std_laws.proofs.OptionLaws.{option_and_then_parts, cond_some_parts}
use Rattle.mips_isa.specs.declared.Access.{Access}
use Rattle.mips_isa.specs.declared.Next.{Next}
use Rattle.mips_isa.specs.declared.Next.TheVariants.{Stops, Asks, Goes}
use Rattle.mips_isa.specs.Kinds.{part}
use Rattle.access_log.specs.declared.Core.{Core}
use Rattle.access_log.specs.declared.Entry.{Entry}
use Rattle.access_log.specs.Memory.{word_at, made, due, has_found, after, memory_after, is_same}
use Rattle.access_log.specs.Replay.{FlatMachine, memory_bytes, next_in, caught_up_in, finished, entered_by, entered, entered_all, own}
use Rattle.access_log.specs.Replay.{own_by, own_step, own_steps}
use Rattle.access_log.proofs.ItemLaws.{length-after}
use Rattle.access_log.proofs.EntryLaws.{is_same-true, is_same-same}

-- what is due of a core's access is made by it, and has found what memory holds
pub due-made : (memory : List ℕ) (core n : ℕ) (access : Access) (entry : Entry) → entry ≡ due memory core n access
    → entry ≡ made core n access entry.old
unfolding due
due-made memory core n access entry e = rw e refl

pub due-old : (memory : List ℕ) (core n : ℕ) (access : Access) (entry : Entry) → entry ≡ due memory core n access
    → entry.old ≡ part entry.kind entry.addr (word_at memory entry.addr)
unfolding due
due-old memory core n access entry e = rw e refl

-- an entry that a core makes, and that has found what memory holds, is due
pub due-from : (memory : List ℕ) (entry : Entry) (n : ℕ) (access : Access)
    → entry ≡ made entry.core n access entry.old → entry.old ≡ part entry.kind entry.addr (word_at memory entry.addr)
    → entry ≡ due memory entry.core n access
unfolding due
due-from memory entry n access is found =
    let kind : entry.kind ≡ access.kind = ap (λ (e : Entry). e.kind) is in
    let addr : entry.addr ≡ access.addr = ap (λ (e : Entry). e.addr) is in
    let old : entry.old ≡ part access.kind access.addr (word_at memory access.addr) = rw (kind, addr) at found in
    is ∙ ap (made entry.core n access) old

pub length-memory_after : (order : List Entry) (memory new_memory : List ℕ) → memory_after order memory ≡ Some new_memory
    → length new_memory ≡ length memory
unfolding memory_after
length-memory_after [] memory new_memory h = ap length (sym (same_Some memory new_memory h))
length-memory_after (entry ∷ entries) memory new_memory h =
    let found = cond_some_parts (has_found memory entry) (memory_after entries (after memory entry)) new_memory h in
    length-memory_after entries (after memory entry) new_memory found.1 ∙ length-after memory entry

-- the machine after an entry
abbrev pub stepped : FlatMachine → Entry → Core → FlatMachine
stepped machine entry core = record
    { code = machine.code; cores = slice_set machine.cores entry.core core; memory = after machine.memory entry }

by_own : (machine : FlatMachine) (entry : Entry) (core new : Core) (next : Next) → own_by machine.code entry core next ≡ Some new
    → has_found machine.memory entry ≡ true → entered_by machine entry core next ≡ Some (stepped machine entry new)
by_own machine entry core new (Stops stop) h found = absurd (none-some new h)
by_own machine entry core new (Goes state) h found = absurd (none-some new h)
by_own machine entry core new (Asks access) h found =
    let parts = cond_some_parts (is_same entry (made entry.core core.executed access entry.old))
    (Some (finished machine.code entry.old core))
    new h in
    let is : entry ≡ due machine.memory entry.core core.executed access =
    due-from machine.memory entry core.executed access (is_same-true entry (made entry.core core.executed access entry.old) parts.0)
    (eqb-true entry.old (part entry.kind entry.addr (word_at machine.memory entry.addr)) found) in
    let same : is_same entry (due machine.memory entry.core core.executed access) ≡ true = rw (← is) (is_same-same entry) in
    rw (same, ← same_Some (finished machine.code entry.old core) new parts.1) refl

-- an entry that its core makes by itself, and that has found what memory holds, is made in the machine
pub entered-own : (machine : FlatMachine) (entry : Entry) (before new : Core) → slice_get machine.cores entry.core ≡ Some before
    → own_step machine.code (memory_bytes machine) entry before ≡ Some new → has_found machine.memory entry ≡ true
    → entered entry machine ≡ Some (stepped machine entry new)
unfolding entered own_step
entered-own machine entry before new was h found =
    option_and_then_some (λ (there : Core). own_by machine.code entry there (next_in machine there)) (caught_up_in machine entry.nth before)
    new h
    (λ there caught made. rw (was, caught) (by_own machine entry there new (next_in machine there) made found))

pub own-at : (entry : Entry) (entries : List Entry) (c : ℕ) → entry.core ≡ c → own (entry ∷ entries) c ≡ entry ∷ own entries c
own-at entry entries c h = rw (eq-eqb entry.core c h) refl

own-other : (entry : Entry) (entries : List Entry) (c : ℕ) → (entry.core ≡ c → ⊥) → own (entry ∷ entries) c ≡ own entries c
own-other entry entries c h = rw (ne_eqb entry.core c h) refl

-- each core makes its own entries
abbrev pub EachRuns : List ℕ → ℕ → List Entry → List Core → Type 0
EachRuns code bytes order cores = (c : ℕ) (core : Core) → slice_get cores c ≡ Some core → (final : Core)
    × (own_steps code bytes (own order c) core ≡ Some final)

abbrev at : List ℕ → List Core → List ℕ → FlatMachine
at code cores memory = record { code = code; cores = cores; memory = memory }

-- what the run of the machine leaves
pub record Merged (code : List ℕ) (bytes : ℕ) (order : List Entry) (cores : List Core) (memory : List ℕ) (new_cores : List Core)
    (new_memory : List ℕ) : Type 0 where
  pub run : entered_all order (at code cores memory) ≡ Some (at code new_cores new_memory)
  pub each : (c : ℕ) (core : Core) → slice_get cores c ≡ Some core → own_steps code bytes (own order c) core ≡ slice_get new_cores c
  pub length_is : length new_cores ≡ length cores

each_next : (code : List ℕ) (bytes : ℕ) (entry : Entry) (entries : List Entry) (cores : List Core) (new : Core) → entry.core < length cores
    → EachRuns code bytes (entry ∷ entries) cores → (final : Core) × (own_steps code bytes (own entries entry.core) new ≡ Some final)
    → EachRuns code bytes entries (slice_set cores entry.core new)
each_next code bytes entry entries cores new within each own_run c core here =
    elim (cases_eq c entry.core) [
      | inl same ↦
          (let is : core ≡ new = same_Some core new (sym here ∙ (rw same (slice_get-set_same cores entry.core new within))) in
          let here : (final : Core) × (own_steps code bytes (own entries c) new ≡ Some final) =
          subst (λ (k : ℕ). (final : Core) × (own_steps code bytes (own entries k) new ≡ Some final)) (sym same) own_run in
          rw is here)
      | inr other ↦
          (let before : slice_get cores c ≡ Some core = sym (slice_get-set_other cores entry.core c new other) ∙ here in
          rw (own-other entry entries c (λ e. other (sym e))) at (each c core before))
    ]

pub each_all : (code : List ℕ) (bytes : ℕ) (entry : Entry) (entries : List Entry) (cores new_cores : List Core) (before new : Core)
    → entry.core < length cores
    → slice_get cores entry.core ≡ Some before → own_step code bytes entry before ≡ Some new
    → ((c : ℕ) (core : Core) → slice_get (slice_set cores entry.core new) c ≡ Some core
    → own_steps code bytes (own entries c) core ≡ slice_get new_cores c)
    → (c : ℕ) (core : Core) → slice_get cores c ≡ Some core → own_steps code bytes (own (entry ∷ entries) c) core ≡ slice_get new_cores c
unfolding own_steps
each_all code bytes entry entries cores new_cores before new within was step others c core here =
    elim (cases_eq c entry.core) [
      | inl same ↦
          (let is : core ≡ before = same_Some core before (sym here ∙ (rw same was)) in
          let stands : slice_get (slice_set cores entry.core new) c ≡ Some new = rw same (slice_get-set_same cores entry.core new within) in
          rw (is, own-at entry entries c (sym same), step) (others c new stands))
      | inr other ↦
          (let after : slice_get (slice_set cores entry.core new) c ≡ Some core = slice_get-set_other cores entry.core c new other ∙ here in
          rw (own-other entry entries c (λ e. other (sym e))) (others c core after))
    ]

pub merged : (code : List ℕ) (bytes : ℕ) (order : List Entry) (cores : List Core) (memory new_memory : List ℕ)
    → 4 * length memory ≡ bytes → memory_after order memory ≡ Some new_memory
    → AllByRecursion (λ entry. entry.core < length cores) order → EachRuns code bytes order cores
    → (new_cores : List Core) × Merged code bytes order cores memory new_cores new_memory
unfolding entered_all memory_after own_steps
merged code bytes [] cores memory new_memory size h within each = (
  cores,
  record {
    run = ap (λ (m : List ℕ). Some (at code cores m)) (same_Some memory new_memory h);
    each = λ c core here. sym here;
    length_is = refl;
  },
)
merged code bytes (entry ∷ entries) cores memory new_memory size h within each =
    let found = cond_some_parts (has_found memory entry) (memory_after entries (after memory entry)) new_memory h in
    let was = slice_get_some cores entry.core within.0 in
    let runs = each entry.core was.0 was.1 in
    let first = option_and_then_parts (own_steps code bytes (own entries entry.core)) (own_step code bytes entry was.0) runs.0
    (rw (own-at entry entries entry.core refl) at runs.1) in
    let next : List Core = slice_set cores entry.core first.0 in
    let made : entered entry (at code cores memory) ≡ Some (at code next (after memory entry)) =
    entered-own (at code cores memory) entry was.0 first.0 was.1 (rw size first.1) found.0 in
    let others = merged code bytes entries next (after memory entry) new_memory
    (rw (length-after memory entry) size) found.1
    (rw (length-set cores entry.core first.0) within.1)
    (each_next code bytes entry entries cores first.0 within.0 each (runs.0, first.2)) in (
      others.0,
      record {
        run = rw made others.1.run;
        each = λ c core here. each_all code bytes entry entries cores others.0 was.0 first.0 within.0 was.1 first.1 others.1.each c core
            here;
        length_is = rw (length-set cores entry.core first.0) at others.1.length_is;
      },
    )
