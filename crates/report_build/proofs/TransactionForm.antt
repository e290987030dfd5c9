-- A transaction that the letters allow keeps the bounds of those that are read, where it is of a line of memory.
use Rattle.std.proofs.Common.{◌≡◌, ℕ, zero, suc, ◌*◌, ◌^◌, ◌<◌, ◌≤◌, ◌%◌, Bool, true, false, List, [], ◌∷◌, ◌++◌, length, arith, refl, sym, subst, cond}
use Rattle.std.specs.Prelude.{Some, None, IfSome, if◌then◌else◌, filter, nat_lt, not, ◌==◌, ◌&&◌, slice_get}
use Rattle.std.specs.List.{AllByRecursion}
use Rattle.std.proofs.Math.Pow.{pow_mono}
use Rattle.std.proofs.lemmas.Option.{IfSome_then}
use Rattle.std_laws.proofs.ListLaws.{AllByRecursion-append}
use Rattle.kmp_base.specs.declared.setup.Setup.{Setup}
use Rattle.kmp_base.specs.declared.setup.MachineKind.{MachineKind}
use Rattle.kmp_base.specs.declared.setup.MachineKind.TheVariants.{Plain, Pipe, Full}
use Rattle.image_file.specs.Value.{ImageValue, memory_bytes, code_lines}
use Rattle.access_log.specs.declared.Letter.{Letter}
use Rattle.access_log.specs.declared.Transaction.{Transaction}
use Rattle.access_log.specs.declared.Item.{Item}
use Rattle.access_log.specs.declared.Item.TheVariants.{Done, Bus}
use Rattle.access_log.specs.Items.{transactions}
use Rattle.moesi_master.specs.Moesi.{is_held, is_dirty}
use Rattle.letters.specs.Caches.{Caches, moesi, all_with}
use Rattle.letters.specs.Fold.{LettersValue, no_letters, after_entry, after_transaction, filled_after_transaction, is_that}
use Rattle.letters.specs.Fold.{holders, supplier_of, victim_of, IsAllowed, FollowsFrom}
use Rattle.right_run.specs.Right.{FollowsOn}
use Rattle.report_rows.specs.Bounds.{has_bus, IsCache, IsLine, IsTransaction}

-- ---- who holds the line

holders-below : (letter : ℕ → ℕ → Letter) (master line n : ℕ) → holders letter master line n < 2 ^ n
holders-below letter master line zero = omega arith
holders-below letter master line (suc n) =
    let others = holders-below letter master line n in
    let mine = by (not (n == master) && is_held (letter n line)) in
    omega (arith, others, mine)
  where
    by : (holds : Bool) → (if holds then 2 ^ n else 0) ≤ 2 ^ n
    by true = omega arith
    by false = omega arith

supplier-below : (letter : ℕ → ℕ → Letter) (master line n most : ℕ) → n ≤ most → IfSome (supplier_of letter master line n) (λ cache. cache < most)
supplier-below letter master line zero most few = tt
supplier-below letter master line (suc n) most few =
    by (not (n == master) && is_dirty (letter n line)) (supplier-below letter master line n most (omega (arith, few)))
  where
    by : (owns : Bool) → IfSome (supplier_of letter master line n) (λ cache. cache < most)
        → IfSome (if owns then Some n else supplier_of letter master line n) (λ cache. cache < most)
    by true others = omega (arith, few)
    by false others = others

-- ---- what was filled

AreBelow : ℕ → List ℕ → Type 0
AreBelow most lines = AllByRecursion (λ line. line < most) lines

-- Only such lines stand in caches.
FillBelow : ℕ → LettersValue → Type 0
FillBelow most letters = (cache set : ℕ) → AreBelow most (letters.filled cache set)

filter-below : (most : ℕ) (test : ℕ → Bool) (lines : List ℕ) → AreBelow most lines → AreBelow most (filter test lines)
unfolding AreBelow
filter-below most test [] are = tt
filter-below most test (line ∷ lines) are = by (test line) (filter-below most test lines are.1)
  where
    by : (passes : Bool) → AllByRecursion (λ line. line < most) (filter test lines)
        → AllByRecursion (λ line. line < most) (cond passes (line ∷ filter test lines) (filter test lines))
    by true others = (are.0, others)
    by false others = others

victim-below : (most ways : ℕ) (letter : Letter) (lines : List ℕ) → AreBelow most lines
    → IfSome (victim_of ways letter lines) (λ line. line < most)
unfolding AreBelow
victim-below most ways letter lines are = by (is_held letter) (nat_lt (length lines) ways)
  where
    first : (lines : List ℕ) → AllByRecursion (λ line. line < most) lines → IfSome (slice_get lines 0) (λ line. line < most)
    first [] are = tt
    first (line ∷ lines) are = are.0

    by : (held room : Bool) → IfSome (if held then None else (if room then None else slice_get lines 0)) (λ line. line < most)
    by true room = tt
    by false true = tt
    by false false = first lines are

module _ (most : ℕ) (caches : Caches) (letters : LettersValue) (bus : Transaction) (line : bus.line < most) where
  set-below : (cache : ℕ) (lines : List ℕ) → AreBelow most lines → AreBelow most (filled_after_transaction letters bus cache lines)
  unfolding AreBelow
  set-below cache lines are = by (cache == bus.master) (is_held (letters.letter cache bus.line)) bus.im
    where
      room : AreBelow most (filter (λ line. not (is_that bus.victim line)) lines)
      room = filter-below most (λ line. not (is_that bus.victim line)) lines are

      by : (mine held im : Bool) → AllByRecursion (λ line. line < most) (if mine
          then (if held then lines else (filter (λ line. not (is_that bus.victim line)) lines ++ bus.line ∷ []))
          else (if im then filter (λ line. not (line == bus.line)) lines else lines))
      by true true im = are
      by true false im =
          AllByRecursion-append (λ line. line < most) (filter (λ line. not (is_that bus.victim line)) lines) (bus.line ∷ []) room (line, tt)
      by false held true = filter-below most (λ line. not (line == bus.line)) lines are
      by false held false = are

  fill-below : FillBelow most letters → FillBelow most (after_transaction caches letters bus)
  unfolding FillBelow
  fill-below are cache set = by (set == bus.line % caches.sets)
    where
      by : (here : Bool) → AreBelow most
          (if here then filled_after_transaction letters bus cache (letters.filled cache set) else letters.filled cache set)
      by true = set-below cache (letters.filled cache set) (are cache set)
      by false = are cache set

-- ---- the transactions of a history

-- They are of lines of memory.
abbrev pub AreOnLines : ImageValue → List Item → Type 0
AreOnLines image items = AllByRecursion (λ (bus : Transaction). bus.line < image.memory_lines) (transactions items)

abbrev pub IsOnBus : MachineKind → ℕ → ℕ → Transaction → Type 0
IsOnBus machine cores bytes bus = (has_bus machine ≡ true) × IsTransaction cores bytes bus

allowed-form : (caches : Caches) (cores code lines : ℕ) (letters : LettersValue) (bus : Transaction) → cores ≤ 8 → bus.line < lines
    → FillBelow lines letters → IsAllowed caches cores code letters bus → IsTransaction cores (8 * lines) bus
unfolding FillBelow
allowed-form caches cores code lines letters bus few line fill allowed =
    let caches_below = holders-below letters.letter bus.master bus.line (2 * cores) in
    let most = pow_mono {i = 2 * cores} {j = 16} (omega (arith, few)) in
    let victim = victim-below lines caches.ways (letters.letter bus.master bus.line) (letters.filled bus.master (bus.line % caches.sets))
    (fill bus.master (bus.line % caches.sets)) in
    record {
      master = allowed.master;
      line = omega (arith, line);
      ch = omega (arith, allowed.held_by, caches_below, most);
      di = subst (λ di. IfSome di (IsCache cores)) (sym allowed.supplier)
          (supplier-below letters.letter bus.master bus.line (2 * cores) (2 * cores) (omega arith));
      victim = subst (λ victim. IfSome victim (IsLine (8 * lines))) (sym allowed.makes_room)
          (IfSome_then _ {Q = IsLine (8 * lines)} victim (λ line below. omega (arith, below)));
    }

transactions-form : (caches : Caches) (cores code lines : ℕ) (letters : LettersValue) (items : List Item) → cores ≤ 8
    → AllByRecursion (λ (bus : Transaction). bus.line < lines) (transactions items) → FillBelow lines letters
    → FollowsFrom caches cores code letters items
    → AllByRecursion (IsOnBus Full cores (8 * lines)) (transactions items)
unfolding FillBelow
transactions-form caches cores code lines letters [] few on fill follows = tt
transactions-form caches cores code lines letters (Done entry ∷ items) few on fill follows =
    transactions-form caches cores code lines (after_entry letters entry) items few on fill follows.1
transactions-form caches cores code lines letters (Bus bus ∷ items) few on fill follows = (
  (refl, allowed-form caches cores code lines letters bus few on.0 fill follows.0),
  transactions-form caches cores code lines (after_transaction caches letters bus) items few on.1
      (fill-below lines caches letters bus on.0 fill) follows.1,
)

pub bus-form : (machine : MachineKind) (setup : Setup) (image : ImageValue) (items : List Item) → setup.cores ≤ 8 → AreOnLines image items
    → FollowsOn machine setup image items
    → AllByRecursion (IsOnBus machine setup.cores (memory_bytes image)) (transactions items)
unfolding AreBelow FillBelow
bus-form Plain setup image items few on follows = subst (AllByRecursion (IsOnBus Plain setup.cores (memory_bytes image))) (sym follows) tt
bus-form Pipe setup image items few on follows = subst (AllByRecursion (IsOnBus Pipe setup.cores (memory_bytes image))) (sym follows) tt
bus-form Full setup image items few on follows =
    transactions-form (all_with moesi setup.sets setup.ways) setup.cores (code_lines image) image.memory_lines no_letters items few on
    (λ cache set. tt) follows
