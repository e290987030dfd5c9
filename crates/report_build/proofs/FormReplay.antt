-- What a replay makes sure of: how many cores it has, and what the accesses are that it makes.
use Rattle.std.proofs.Common.{◌≡◌, ◌≢◌, ℕ, ◌+◌, ◌*◌, ◌<◌, ◌≤◌, List, [], ◌∷◌, length, refl, sym, ◌∙◌, ap, subst, arith}
use Rattle.std.specs.Prelude.{◌==◌, Some, slice_get}
use Rattle.std.specs.List.{AllByRecursion}
use Rattle.std.proofs.lemmas.List.{length-set}
use Rattle.std.proofs.lemmas.Option.{none-some, same_Some}
use Rattle.std_laws.proofs.ListLaws.{slice_get_some, AllByRecursion-cond_cons}
use Rattle.std_laws.proofs.OptionLaws.{option_and_then_parts, option_map_parts, cond_some_parts}
use Rattle.mips_isa.specs.declared.Kind.{Kind}
use Rattle.mips_isa.specs.declared.Kind.TheVariants.{Fetch, Lw, Sw, Cas}
use Rattle.mips_isa.specs.declared.CoreState.{CoreState}
use Rattle.mips_isa.specs.declared.Next.{Next}
use Rattle.mips_isa.specs.declared.Next.TheVariants.{Stops, Asks, Goes}
use Rattle.mips_isa.specs.Kinds.{width}
use Rattle.mips_isa.specs.Steps.{next_of, IsAccess, MayAccess}
use Rattle.mips_isa.proofs.NextLaws.{next-may}
use Rattle.access_log.specs.declared.Core.{Core}
use Rattle.access_log.specs.declared.Entry.{Entry}
use Rattle.access_log.specs.Memory.{made, due, is_same}
use Rattle.access_log.specs.Replay.{FlatMachine, next_in, caught_up, caught_up_for, finished, entered_by, entered, entered_all, with_core}
use Rattle.access_log.specs.Replay.{moved, ended, started, starting, replay, own, own_by, own_step, own_steps}
use Rattle.access_log.specs.Interleaving.{Interleaves}
use Rattle.access_log.proofs.EntryLaws.{is_same-true}
use Rattle.access_log.proofs.InterleavingLaws.{length-start}
use Rattle.access_log.proofs.MergeLaws.{own-at, stepped}
use Rattle.access_log.proofs.ReplayLaws.{CaughtUp-from}
use Rattle.report_rows.specs.Bounds.{IsAddress}

-- ---- the number of the cores

entered_by-cores : (machine : FlatMachine) (entry : Entry) (core : Core) (next : Next) (new : FlatMachine)
    → entered_by machine entry core next ≡ Some new → length new.cores ≡ length machine.cores
entered_by-cores machine entry core (Stops stop) new h = absurd (none-some new h)
entered_by-cores machine entry core (Goes state) new h = absurd (none-some new h)
entered_by-cores machine entry core (Asks access) new h =
    let after_it = finished machine.code entry.old core in
    let parts = cond_some_parts (is_same entry (due machine.memory entry.core core.executed access)) (Some (stepped machine entry after_it))
    new
    h in
    ap (λ (m : FlatMachine). length m.cores) (sym (same_Some (stepped machine entry after_it) new parts.1))
    ∙ length-set machine.cores entry.core after_it

entered_all-cores : (order : List Entry) (machine new : FlatMachine) → entered_all order machine ≡ Some new
    → length new.cores ≡ length machine.cores
unfolding entered entered_all
entered_all-cores [] machine new h = ap (λ (m : FlatMachine). length m.cores) (sym (same_Some machine new h))
entered_all-cores (entry ∷ order) machine new h =
    let first = option_and_then_parts (entered_all order) (entered entry machine) new h in
    let there = option_and_then_parts (λ (core : Core). entered_by machine entry core (next_in machine core)) (caught_up_for machine entry)
    first.0
    first.1 in
    entered_all-cores order first.0 new first.2 ∙ entered_by-cores machine entry there.0 (next_in machine there.0) first.0 there.2

ended-cores : (index : ℕ) (counts : List ℕ) (machine new : FlatMachine) → ended index counts machine ≡ Some new
    → length new.cores ≡ length machine.cores
unfolding ended
ended-cores index [] machine new h = ap (λ (m : FlatMachine). length m.cores) (sym (same_Some machine new h))
ended-cores index (n ∷ counts) machine new h =
    let first = option_and_then_parts (ended (index + 1) counts) (moved index n machine) new h in
    let end = option_map_parts (with_core machine index) _ first.0 first.1 in
    ended-cores (index + 1) counts first.0 new first.2 ∙ ap (λ (m : FlatMachine). length m.cores) (sym end.2)
    ∙ length-set machine.cores index end.0

pub replay-cores : (code memory : List ℕ) (starts : List CoreState) (order : List Entry) (counts : List ℕ) (machine : FlatMachine)
    → replay code memory starts order counts ≡ Some machine → length machine.cores ≡ length starts
unfolding replay started
replay-cores code memory starts order counts machine h =
    let mid = option_and_then_parts (ended 0 counts) (entered_all order (started code memory starts)) machine h in
    ended-cores 0 counts mid.0 machine mid.2 ∙ entered_all-cores order (started code memory starts) mid.0 mid.1 ∙ length-start starts

-- ---- the accesses

-- An access that a core may make, before it has executed so many instructions.
pub record IsAsked (bytes most : ℕ) (entry : Entry) : Type 0 where
  pub nth : entry.nth < most
  pub kind : entry.kind ≢ Fetch
  pub addr : IsAddress bytes entry.addr

not_fetch : (kind : Kind) → IsAccess kind → kind ≢ Fetch
not_fetch Fetch is e = is
not_fetch Lw is e = cc
not_fetch Sw is e = cc
not_fetch Cas is e = cc

width_four : (kind : Kind) → width kind ≡ 4
width_four Fetch = refl
width_four Lw = refl
width_four Sw = refl
width_four Cas = refl

may_stand_at : (code bytes : ℕ) (kind : Kind) (addr : ℕ) → MayAccess code bytes kind addr → (kind ≢ Fetch) × IsAddress bytes addr
may_stand_at code bytes kind addr may = (not_fetch kind may.0, record { aligned = rw (width_four kind) at may.1.0; inside = may.1.1 })

-- a core that has caught up to an access, and makes it
own_by-asks : (code : List ℕ) (bytes : ℕ) (entry : Entry) (core new : Core) (next : Next) → next_of code bytes core.state ≡ next
    → own_by code entry core next ≡ Some new
    → (new.executed ≡ core.executed + 1) × (entry.kind ≢ Fetch) × IsAddress bytes entry.addr
own_by-asks code bytes entry core new (Stops stop) is h = absurd (none-some new h)
own_by-asks code bytes entry core new (Goes state) is h = absurd (none-some new h)
own_by-asks code bytes entry core new (Asks access) is h =
    let parts = cond_some_parts (is_same entry (made entry.core core.executed access entry.old)) (Some (finished code entry.old core)) new h
    in
    let after_it = same_Some (finished code entry.old core) new parts.1 in
    let same = sym (is_same-true entry (made entry.core core.executed access entry.old) parts.0) in
    let may = may_stand_at (4 * length code) bytes access.kind access.addr (next-may code bytes core.state access is) in
    let P : Kind → Type 0 = λ kind. kind ≢ Fetch in
    let Q : ℕ → Type 0 = λ addr. IsAddress bytes addr in (
      ap (λ (c : Core). c.executed) (sym after_it),
      subst P (ap (λ (e : Entry). e.kind) same) may.0,
      subst Q (ap (λ (e : Entry). e.addr) same) may.1,
    )

-- a core catches up to each of its accesses, and has then executed one instruction more
own_steps-ask : (code : List ℕ) (bytes most : ℕ) (order : List Entry) (core final : Core) → own_steps code bytes order core ≡ Some final
    → final.executed ≤ most
    → (core.executed ≤ final.executed) × AllByRecursion (IsAsked bytes most) order
unfolding own_step own_steps
own_steps-ask code bytes most [] core final h few = (omega (arith, ap (λ (c : Core). c.executed) (same_Some core final h)), tt)
own_steps-ask code bytes most (entry ∷ order) core final h few =
    let first = option_and_then_parts (own_steps code bytes order) (own_step code bytes entry core) final h in
    let there = option_and_then_parts (λ (there : Core). own_by code entry there (next_of code bytes there.state))
    (caught_up code bytes entry.nth core) first.0 first.1 in
    let caught = CaughtUp-from code bytes entry.nth core there.0 there.1 in
    let asks = own_by-asks code bytes entry there.0 first.0 (next_of code bytes there.0.state) refl there.2 in
    let others = own_steps-ask code bytes most order first.0 final first.2 few in
    let below : entry.nth < final.executed = omega (arith, caught.count, asks.0, others.0) in
    (omega (arith, caught.before, below), (record { nth = omega (arith, below, few); kind = asks.1; addr = asks.2 }, others.1))

-- those of one core of an interleaving
own_asked : (code memory : List ℕ) (starts : List CoreState) (order : List Entry) (counts : List ℕ) (finals : List Core)
    (new_memory : List ℕ) (most : ℕ)
    → Interleaves code memory starts order counts finals new_memory → ((core n : ℕ) → slice_get counts core ≡ Some n → n ≤ most)
    → (core : ℕ) → core < length starts → AllByRecursion (IsAsked (4 * length memory) most) (own order core)
own_asked code memory starts order counts finals new_memory most is few core within =
    let count = slice_get_some counts core (rw is.counts_are within) in
    let final = slice_get_some finals core (rw is.finals_are within) in
    let start = slice_get_some starts core within in
    let runs = is.alone core count.0 start.0 final.0 start.1 count.1 final.1 in
    let caught = CaughtUp-from code (4 * length memory) count.0 runs.mid final.0 runs.end in
    let executed : runs.mid.executed ≤ most = omega (arith, caught.before, few core count.0 count.1) in
    (own_steps-ask code (4 * length memory) most (own order core) (starting start.0) runs.mid runs.own_entries executed).1

-- what holds of each core's own holds of all
all_own : (P : Entry → Type 0) (cores : ℕ) (order : List Entry) → AllByRecursion (λ (entry : Entry). entry.core < cores) order
    → ((core : ℕ) → core < cores → AllByRecursion P (own order core))
    → AllByRecursion P order
all_own P cores [] within each = tt
all_own P cores (entry ∷ order) within each =
    let here : AllByRecursion P (entry ∷ own order entry.core) = rw (own-at entry order entry.core refl) at (each entry.core within.0) in (
      here.0,
      all_own P cores order within.1
          (λ core below. AllByRecursion-cond_cons P (entry.core == core) entry (own order core) (each core below)),
    )

pub all_asked : (code memory : List ℕ) (starts : List CoreState) (order : List Entry) (counts : List ℕ) (finals : List Core)
    (new_memory : List ℕ) (most : ℕ)
    → Interleaves code memory starts order counts finals new_memory → ((core n : ℕ) → slice_get counts core ≡ Some n → n ≤ most)
    → AllByRecursion (IsAsked (4 * length memory) most) order
all_asked code memory starts order counts finals new_memory most is few =
    all_own (IsAsked (4 * length memory) most) (length starts) order is.within
    (own_asked code memory starts order counts finals new_memory most is few)
