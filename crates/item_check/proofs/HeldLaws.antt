-- What becomes of the lines of all caches.
use Rattle.std.proofs.Common.{◌≡◌, ◌≢◌, ℕ, zero, suc, ◌∷◌, ◌*◌, ◌%◌, ◌<◌, ◌≤◌, inl, inr, Bool, true, false, List, [], length, get_or}
use Rattle.std.proofs.Common.{refl, ap, sym, ◌∙◌, arith, subst, length-set}
use Rattle.std.specs.Prelude.{slice_set, is_some, if◌then◌else◌, ◌==◌, take, drop, ◌++◌}
use Rattle.std.proofs.lemmas.Bool.{cases_eq, cases_lt, eq-eqb, ne_eqb}
use Rattle.std.proofs.Math.Seq.{take-append_seam}
use Rattle.std.proofs.lemmas.List.{get_or_past, get_or-set_same, get_or-set_other}
use Rattle.mips_isa.specs.declared.Kind.{Kind}
use Rattle.mips_isa.specs.Kinds.{stores}
use Rattle.access_log.specs.declared.Letter.{Letter}
use Rattle.access_log.specs.declared.Letter.TheVariants.{M, O, E, S, I}
use Rattle.access_log.specs.declared.Entry.{Entry}
use Rattle.access_log.specs.declared.Transaction.{Transaction}
use Rattle.moesi_master.specs.Moesi.{is_held, is_sole, is_hit, after_hit, after_finish}
use Rattle.item_check.specs.declared.held.HeldLine.{HeldLine}
use Rattle.letters.specs.Fold.{LettersValue, victim_of, cache_of, line_of, after_entry, after_transaction, IsAllowed}
use Rattle.item_check.specs.Held.{HeldLetters, caches_of, letters_of, lines_of, set_for, with_set_for, letter_in, with_letter, acted}
use Rattle.item_check.specs.Held.{finished, acted_beside, without_that, numbers, IsSet, AreHeld}
use Rattle.item_check.proofs.SetLemmas.{AllIn, all-with, length-with}
use Rattle.item_check.proofs.FoldLaws.{fold_of, same_letters, entry-follows, bus-follows, finished-all, finished-room, finished-length}
use Rattle.item_check.proofs.FoldLaws.{acted-all, acted-length}

-- What stands inside a list is found whatever stands for nothing.
get_or_any : {A : Type 0} (xs : List A) (i : ℕ) (d e : A) → i < length xs → get_or xs i d ≡ get_or xs i e
get_or_any [] i d e below = absurd (omega arith)
get_or_any (x ∷ xs) zero d e below = refl
get_or_any (x ∷ xs) (suc i) d e below = get_or_any xs i d e (omega arith)

-- A letter that is a hit is that of a line that is held, and stays so.
pub hit-held : (letter : Letter) (kind : Kind) → is_hit letter kind ≡ true → is_held letter ≡ true
hit-held letter kind hit = by (stores kind) hit
  where
    sole : (x : Letter) → is_sole x ≡ true → is_held x ≡ true
    sole M is = refl
    sole O is = refl
    sole E is = refl
    sole S is = refl
    sole I is = is

    by : (b : Bool) → (if b then is_sole letter else is_held letter) ≡ true → is_held letter ≡ true
    by true is = sole letter is
    by false is = is

hit-stays : (letter : Letter) (stored : Bool) → is_held letter ≡ true → is_held (after_hit letter stored) ≡ true
hit-stays letter true is = refl
hit-stays letter false is = is

finish-held : (im : Bool) (held_by : ℕ) → is_held (after_finish im held_by) ≡ true
finish-held true held_by = refl
finish-held false held_by = by (held_by == 0)
  where
    by : (b : Bool) → is_held (if b then E else S) ≡ true
    by true = refl
    by false = refl

-- No line stands in a cache that isn't there.
lines-none : (held : List (List (List HeldLine))) (cache set : ℕ) → length held ≤ cache → lines_of held cache set ≡ []
lines-none held cache set beyond = ap (λ sets. get_or sets set []) (get_or_past held cache [] beyond)

module _ (letters : HeldLetters) (are : AreHeld letters) where
  -- The set of a line in each cache.
  set-at : (cache line : ℕ) → set_for (get_or letters.held cache []) line ≡ lines_of letters.held cache (line % letters.sets)
  set-at cache line = elim (cases_lt cache (2 * letters.cores))
      as (λ _. set_for (get_or letters.held cache []) line ≡ lines_of letters.held cache (line % letters.sets)) [
        | inl there ↦ ap (λ n. get_or (get_or letters.held cache []) (line % n) []) (are.shape cache there)
        | inr beyond ↦
            (let none : get_or letters.held cache [] ≡ [] = get_or_past letters.held cache [] (omega (arith, are.caches, beyond)) in
            ap (λ sets. set_for sets line) none ∙ sym (ap (λ sets. get_or sets (line % letters.sets) []) none))
      ]

  pub as-fold : letters_of letters ≡ fold_of letters.sets (lines_of letters.held)
  as-fold = same_letters _ _ _ _ (λ cache line. ap (λ lines. letter_in lines line) (set-at cache line)) (λ cache set. refl)

-- A set of one cache is exchanged.
abbrev pub exchanged : List (List (List HeldLine)) → ℕ → ℕ → List HeldLine → List (List (List HeldLine))
exchanged held cache line lines = slice_set held cache (with_set_for (get_or held cache []) line lines)

module _ (held : List (List (List HeldLine))) (cache line : ℕ) (lines : List HeldLine) (inside : cache < length held)
    (some : 0 < length (get_or held cache [])) where
  abbrev now : List (List (List HeldLine))
  now = exchanged held cache line lines

  pub exchanged-here : lines_of now cache (line % length (get_or held cache [])) ≡ lines
  exchanged-here =
      ap (λ sets. get_or sets (line % length (get_or held cache [])) [])
      (get_or-set_same held cache (with_set_for (get_or held cache []) line lines) [] inside)
      ∙ get_or-set_same (get_or held cache []) (line % length (get_or held cache [])) lines [] (omega (arith, some))

  pub exchanged-else : (other set : ℕ) → (other ≡ cache → set ≡ line % length (get_or held cache []) → ⊥)
      → lines_of now other set ≡ lines_of held other set
  exchanged-else other set apart = elim (cases_eq other cache) as (λ _. lines_of now other set ≡ lines_of held other set) [
    | inl mine ↦ subst (λ k. lines_of now k set ≡ lines_of held k set) (sym mine)
        (ap (λ sets. get_or sets set []) (get_or-set_same held cache (with_set_for (get_or held cache []) line lines) [] inside)
        ∙ get_or-set_other (get_or held cache []) (line % length (get_or held cache [])) set lines [] (λ same. apart mine same))
    | inr away ↦ ap (λ sets. get_or sets set [])
        (get_or-set_other held cache other (with_set_for (get_or held cache []) line lines) [] away)
  ]

  pub exchanged-shape : (other : ℕ) → length (get_or now other []) ≡ length (get_or held other [])
  exchanged-shape other = elim (cases_eq other cache) as (λ _. length (get_or now other []) ≡ length (get_or held other [])) [
    | inl mine ↦ subst (λ k. length (get_or now k []) ≡ length (get_or held k [])) (sym mine)
        (ap length (get_or-set_same held cache (with_set_for (get_or held cache []) line lines) [] inside)
        ∙ length-set (get_or held cache []) (line % length (get_or held cache [])) lines)
    | inr away ↦ ap length
        (get_or-set_other held cache other (with_set_for (get_or held cache []) line lines) [] away)
  ]

module _ (letters : HeldLetters) (are : AreHeld letters) (cache line : ℕ) (lines : List HeldLine) (there : cache < 2 * letters.cores) where
  abbrev pub changed : HeldLetters
  changed = record letters { held = exchanged letters.held cache line lines }

  inside : cache < length letters.held
  inside = omega (arith, are.caches, there)

  some : 0 < length (get_or letters.held cache [])
  some = omega (arith, are.shape cache there, are.some_sets)

  pub changed-here : lines_of changed.held cache (line % letters.sets) ≡ lines
  changed-here = subst (λ n. lines_of changed.held cache (line % n) ≡ lines) (are.shape cache there)
      (exchanged-here letters.held cache line lines inside some)

  pub changed-else : (other set : ℕ) → (other ≡ cache → set ≡ line % letters.sets → ⊥)
      → lines_of changed.held other set ≡ lines_of letters.held other set
  changed-else other set apart = exchanged-else letters.held cache line lines inside some other set
      (λ mine here. apart mine (here ∙ ap (λ n. line % n) (are.shape cache there)))

  module _ (is : IsSet letters.sets letters.ways (line % letters.sets) lines) where
    set-is : (other set : ℕ) → IsSet letters.sets letters.ways set (lines_of changed.held other set)
    set-is other set = elim (cases_eq other cache) as (λ _. IsSet letters.sets letters.ways set (lines_of changed.held other set)) [
      | inl mine ↦ elim (cases_eq set (line % letters.sets))
          as (λ _. IsSet letters.sets letters.ways set (lines_of changed.held other set)) [
            | inl here ↦ subst (λ k. IsSet letters.sets letters.ways set (lines_of changed.held k set)) (sym mine)
                (subst (λ s. IsSet letters.sets letters.ways s (lines_of changed.held cache s)) (sym here)
                (subst (IsSet letters.sets letters.ways (line % letters.sets)) (sym changed-here) is))
            | inr away ↦ subst (IsSet letters.sets letters.ways set) (sym (changed-else other set (λ m h. away h))) (are.sets_are other set)
          ]
      | inr away ↦ subst (IsSet letters.sets letters.ways set) (sym (changed-else other set (λ m h. away m))) (are.sets_are other set)
    ]

    pub changed-held : AreHeld changed
    changed-held = record {
      some_sets = are.some_sets;
      some_ways = are.some_ways;
      few_ways = are.few_ways;
      few_cores = are.few_cores;
      caches = length-set letters.held cache (with_set_for (get_or letters.held cache []) line lines) ∙ are.caches;
      shape = λ other below. exchanged-shape letters.held cache line lines inside some other ∙ are.shape other below;
      sets_are = set-is;
    }

-- An access that is a hit.
module _ (letters : HeldLetters) (are : AreHeld letters) (entry : Entry) (core : entry.core < letters.cores)
    (hit : is_hit ((letters_of letters).letter (cache_of entry) (line_of entry)) entry.kind ≡ true) where
  there-is : cache_of entry < 2 * letters.cores
  there-is = omega (arith, core)

  abbrev was : List HeldLine
  was = lines_of letters.held (cache_of entry) (line_of entry % letters.sets)

  abbrev becomes : List HeldLine
  becomes = with_letter was (line_of entry) (after_hit (letter_in was (line_of entry)) (is_some entry.new))

  found : is_held (letter_in was (line_of entry)) ≡ true
  found = hit-held (letter_in was (line_of entry)) entry.kind
      (ap (λ lines. is_hit (letter_in lines (line_of entry)) entry.kind) (sym (set-at letters are (cache_of entry) (line_of entry))) ∙ hit)

  is-set : IsSet letters.sets letters.ways (line_of entry % letters.sets) becomes
  is-set = let old = are.sets_are (cache_of entry) (line_of entry % letters.sets) in record {
    lines_are = all-with letters.sets (line_of entry % letters.sets) was (line_of entry) _ old.lines_are
        (hit-stays (letter_in was (line_of entry)) (is_some entry.new) found);
    room = omega (
      arith,
      length-with was (line_of entry) (after_hit (letter_in was (line_of entry)) (is_some entry.new)),
      old.room,
    );
  }

  abbrev next : HeldLetters
  next = changed letters are (cache_of entry) (line_of entry) becomes there-is

  next-held : AreHeld next
  next-held = changed-held letters are (cache_of entry) (line_of entry) becomes there-is is-set

  next-follows : letters_of next ≡ after_entry (letters_of letters) entry
  next-follows =
      as-fold next next-held
      ∙ (entry-follows letters.sets (lines_of letters.held) (lines_of next.held) entry found
      (changed-here letters are (cache_of entry) (line_of entry) becomes there-is)
      (changed-else letters are (cache_of entry) (line_of entry) becomes there-is)
      ∙ ap (λ l. after_entry l entry) (sym (as-fold letters are)))

  -- As the program has it, which finds the set by the number of sets that there are.
  abbrev pub entered : HeldLetters
  entered = record letters {
    held = exchanged letters.held (cache_of entry) (line_of entry)
        (with_letter (set_for (get_or letters.held (cache_of entry) []) (line_of entry)) (line_of entry)
        (after_hit ((letters_of letters).letter (cache_of entry) (line_of entry)) (is_some entry.new)));
  }

  same : next ≡ entered
  same = ap (λ lines. record letters {
    held = exchanged letters.held (cache_of entry) (line_of entry)
        (with_letter lines (line_of entry) (after_hit (letter_in lines (line_of entry)) (is_some entry.new)));
  }) (sym (set-at letters are (cache_of entry) (line_of entry)))

  -- The cache's sets, found at an index, and what becomes of them.
  module _ (index : ℕ) (is : index ≡ cache_of entry) (sets new : List (List HeldLine)) (letter : Letter)
      (found_is : sets ≡ get_or letters.held index sets)
      (letter_is : letter ≡ after_hit ((letters_of letters).letter (cache_of entry) (line_of entry)) (is_some entry.new))
      (new_is : new ≡ with_set_for sets (line_of entry) (with_letter (set_for sets (line_of entry)) (line_of entry) letter)) where
    sets_are : sets ≡ get_or letters.held (cache_of entry) []
    sets_are = found_is
        ∙ (ap (λ k. get_or letters.held k sets) is
        ∙ get_or_any letters.held (cache_of entry) sets [] (omega (arith, are.caches, core)))

    written-is : record letters { held = slice_set letters.held index new } ≡ entered
    written-is = rw (is, new_is, letter_is, sets_are) refl

    pub entered-held : AreHeld (record letters { held = slice_set letters.held index new })
    entered-held = subst AreHeld (sym written-is) (subst AreHeld same next-held)

    pub entered-follows : letters_of (record letters { held = slice_set letters.held index new }) ≡ after_entry (letters_of letters) entry
    entered-follows = subst (λ l. letters_of l ≡ after_entry (letters_of letters) entry) (sym written-is)
        (subst (λ l. letters_of l ≡ after_entry (letters_of letters) entry) same next-follows)

-- A write of as many elements leaves just these.
pub written : {A : Type 0} (count : ℕ) (old new : List A) → length new ≡ count → take count (new ++ drop (length new) old) ≡ new
written count old new same =
    subst (λ n. take n (new ++ drop (length new) old) ≡ new) same (take-append_seam new (drop (length new) old))

-- A transaction that is allowed: all other caches have acted on it.
module _ (letters : HeldLetters) (are : AreHeld letters) (bus : Transaction)
    (allowed : IsAllowed (caches_of letters) letters.cores letters.code_lines (letters_of letters) bus)
    (after : List (List (List HeldLine))) (count : length after ≡ length letters.held)
    (acts : (cache : ℕ) → cache < length letters.held
    → get_or after cache [] ≡ acted_beside bus.master bus.line bus.im cache (get_or letters.held cache [])) where
  abbrev middle : HeldLetters
  middle = record letters { held = after }

  abbrev at : ℕ
  at = bus.line % letters.sets

  abbrev acted-set : ℕ → List HeldLine
  acted-set cache = acted bus.line bus.im (lines_of letters.held cache at)

  master-in : bus.master < length letters.held
  master-in = omega (arith, are.caches, allowed.master)

  master-same : get_or after bus.master [] ≡ get_or letters.held bus.master []
  master-same = acts bus.master master-in ∙ rw (eq-eqb bus.master bus.master refl) refl

  -- Another cache, as if its set alone was exchanged.
  module _ (cache : ℕ) (there : cache < 2 * letters.cores) (other : cache ≢ bus.master) where
    alone : HeldLetters
    alone = changed letters are cache bus.line (acted-set cache) there

    abbrev in-it : cache < length letters.held
    in-it = omega (arith, are.caches, there)

    beside-same : get_or after cache [] ≡ get_or (exchanged letters.held cache bus.line (acted-set cache)) cache []
    beside-same =
        acts cache in-it
        ∙ (rw (ne_eqb cache bus.master other)
        (ap (λ lines. with_set_for (get_or letters.held cache []) bus.line (acted bus.line bus.im lines)) (set-at letters are cache bus.line))
        ∙ sym (get_or-set_same letters.held cache (with_set_for (get_or letters.held cache []) bus.line (acted-set cache)) [] in-it))

    acted-is : IsSet letters.sets letters.ways at (acted-set cache)
    acted-is = let old = are.sets_are cache at in record {
      lines_are = acted-all letters.sets at (lines_of letters.held cache at) bus.line bus.im old.lines_are;
      room = omega (arith, acted-length letters.sets at (lines_of letters.held cache at) bus.line bus.im old.lines_are, old.room);
    }

    beside-is : (set : ℕ) → IsSet letters.sets letters.ways set (lines_of after cache set)
    beside-is set = subst (λ sets. IsSet letters.sets letters.ways set (get_or sets set [])) (sym beside-same)
        ((changed-held letters are cache bus.line (acted-set cache) there acted-is).sets_are cache set)

    beside-shape : length (get_or after cache []) ≡ letters.sets
    beside-shape = ap length beside-same
        ∙ (changed-held letters are cache bus.line (acted-set cache) there acted-is).shape cache there

    beside-here : lines_of after cache at ≡ acted-set cache
    beside-here = ap (λ sets. get_or sets at []) beside-same ∙ changed-here letters are cache bus.line (acted-set cache) there

    beside-else : (set : ℕ) → set ≢ at → lines_of after cache set ≡ lines_of letters.held cache set
    beside-else set away = ap (λ sets. get_or sets set []) beside-same
        ∙ changed-else letters are cache bus.line (acted-set cache) there cache set (λ mine here. away here)

  beyond : (cache set : ℕ) → 2 * letters.cores ≤ cache → lines_of after cache set ≡ lines_of letters.held cache set
  beyond cache set far = lines-none after cache set (omega (arith, count, are.caches, far))
      ∙ sym (lines-none letters.held cache set (omega (arith, are.caches, far)))

  middle-else : (cache set : ℕ) → set ≢ at → lines_of after cache set ≡ lines_of letters.held cache set
  middle-else cache set away = elim (cases_eq cache bus.master) as (λ _. lines_of after cache set ≡ lines_of letters.held cache set) [
    | inl mine ↦ subst (λ k. lines_of after k set ≡ lines_of letters.held k set) (sym mine) (ap (λ sets. get_or sets set []) master-same)
    | inr other ↦ elim (cases_lt cache (2 * letters.cores)) as (λ _. lines_of after cache set ≡ lines_of letters.held cache set) [
      | inl there ↦ beside-else cache there other set away
      | inr far ↦ beyond cache set far
    ]
  ]

  acted-none : (im : Bool) → acted bus.line im [] ≡ []
  acted-none true = refl
  acted-none false = refl

  middle-acts : (cache : ℕ) → cache ≢ bus.master → lines_of after cache at ≡ acted-set cache
  middle-acts cache other = elim (cases_lt cache (2 * letters.cores)) as (λ _. lines_of after cache at ≡ acted-set cache) [
    | inl there ↦ beside-here cache there other
    | inr far ↦
        (let none = lines-none letters.held cache at (omega (arith, are.caches, far)) in
        beyond cache at far ∙ (none ∙ sym (ap (acted bus.line bus.im) none ∙ acted-none bus.im)))
  ]

  middle-held : AreHeld middle
  middle-held = record {
    some_sets = are.some_sets;
    some_ways = are.some_ways;
    few_ways = are.few_ways;
    few_cores = are.few_cores;
    caches = count ∙ are.caches;
    shape = λ cache there. elim (cases_eq cache bus.master) as (λ _. length (get_or after cache []) ≡ letters.sets) [
      | inl mine ↦ subst (λ k. length (get_or after k []) ≡ letters.sets) (sym mine)
          (ap length master-same ∙ are.shape bus.master allowed.master)
      | inr other ↦ beside-shape cache there other
    ];
    sets_are = λ cache set. elim (cases_eq cache bus.master) as (λ _. IsSet letters.sets letters.ways set (lines_of after cache set)) [
      | inl mine ↦ subst (λ k. IsSet letters.sets letters.ways set (lines_of after k set)) (sym mine)
          (subst (λ sets. IsSet letters.sets letters.ways set (get_or sets set [])) (sym master-same) (are.sets_are bus.master set))
      | inr other ↦ elim (cases_lt cache (2 * letters.cores)) as (λ _. IsSet letters.sets letters.ways set (lines_of after cache set)) [
        | inl there ↦ beside-is cache there other set
        | inr far ↦ subst (IsSet letters.sets letters.ways set) (sym (beyond cache set far)) (are.sets_are cache set)
      ]
    ];
  }

  -- The master's own part.
  abbrev own : List HeldLine
  own = lines_of letters.held bus.master at

  own-set : set_for (get_or letters.held bus.master []) bus.line ≡ own
  own-set = set-at letters are bus.master bus.line

  letter-held : is_held bus.letter ≡ true
  letter-held = ap is_held allowed.becomes ∙ finish-held bus.im bus.ch

  own-all : AllIn letters.sets at own
  own-all = (are.sets_are bus.master at).lines_are

  makes-room : bus.victim ≡ victim_of letters.ways (letter_in own bus.line) (numbers own)
  makes-room = allowed.makes_room ∙ ap (λ lines. victim_of letters.ways (letter_in lines bus.line) (numbers own)) own-set

  abbrev own-finished : List HeldLine
  own-finished = finished bus.line bus.victim bus.letter own

  finished-is : IsSet letters.sets letters.ways at own-finished
  finished-is = record {
    lines_are = finished-all letters.sets letters.ways own bus.line bus.victim bus.letter own-all letter-held makes-room;
    room = finished-length letters.sets letters.ways own bus.line bus.victim bus.letter own-all letter-held makes-room
        are.some_ways (are.sets_are bus.master at).room;
  }

  abbrev last : HeldLetters
  last = changed middle middle-held bus.master bus.line own-finished allowed.master

  last-held : AreHeld last
  last-held = changed-held middle middle-held bus.master bus.line own-finished allowed.master finished-is

  last-else : (cache set : ℕ) → (cache ≡ bus.master → set ≡ at → ⊥) → lines_of last.held cache set ≡ lines_of after cache set
  last-else = changed-else middle middle-held bus.master bus.line own-finished allowed.master

  last-follows : letters_of last ≡ after_transaction (caches_of letters) (letters_of letters) bus
  last-follows =
      as-fold last last-held
      ∙ (bus-follows letters.sets letters.ways (lines_of letters.held) (lines_of last.held) bus
      (λ cache set. (are.sets_are cache set).lines_are) letter-held makes-room
      (changed-here middle middle-held bus.master bus.line own-finished allowed.master)
      (λ cache other. last-else cache at (λ mine here. other mine) ∙ middle-acts cache other)
      (λ cache set away. last-else cache set (λ mine here. away here) ∙ middle-else cache set away)
      ∙ ap (λ l. after_transaction (caches_of letters) l bus) (sym (as-fold letters are)))

  -- As the program has it.
  abbrev pub transacted : HeldLetters
  transacted = record letters {
    held = exchanged after bus.master bus.line
        (finished bus.line bus.victim bus.letter (set_for (get_or after bus.master []) bus.line));
  }

  own-now : set_for (get_or after bus.master []) bus.line ≡ own
  own-now = ap (λ sets. set_for sets bus.line) master-same ∙ own-set

  same-last : last ≡ transacted
  same-last = ap (λ lines. record letters { held = exchanged after bus.master bus.line (finished bus.line bus.victim bus.letter lines) })
      (sym own-now)

  room : is_held (letter_in own bus.line) ≡ false → length (without_that bus.victim own) < 8
  room none =
      let one_more = finished-room letters.sets letters.ways own bus.line bus.victim bus.letter own-all letter-held makes-room
      are.some_ways (are.sets_are bus.master at).room none in
      omega (arith, one_more, are.few_ways)

  -- The master's sets, found among all, and what becomes of them.
  module _ (sets : List (List HeldLine)) (found_is : sets ≡ get_or after bus.master sets) where
    master-sets : sets ≡ get_or after bus.master []
    master-sets = found_is ∙ get_or_any after bus.master sets [] (omega (arith, count, master-in))

    master-set : set_for sets bus.line ≡ own
    master-set = ap (λ these. set_for these bus.line) master-sets ∙ own-now

    pub transacted-room : is_held (letter_in (set_for sets bus.line) bus.line) ≡ false
        → length (without_that bus.victim (set_for sets bus.line)) < 8
    transacted-room =
        subst (λ lines. is_held (letter_in lines bus.line) ≡ false → length (without_that bus.victim lines) < 8) (sym master-set) room

    module _ (new : List (List HeldLine))
        (new_is : new ≡ with_set_for sets bus.line (finished bus.line bus.victim bus.letter (set_for sets bus.line))) where
      master-written : record letters { held = slice_set after bus.master new } ≡ transacted
      master-written = rw (new_is, master-sets) refl

      pub transacted-held : AreHeld (record letters { held = slice_set after bus.master new })
      transacted-held = subst AreHeld (sym master-written) (subst AreHeld same-last last-held)

      pub transacted-follows : letters_of (record letters { held = slice_set after bus.master new })
          ≡ after_transaction (caches_of letters) (letters_of letters) bus
      transacted-follows = subst (λ l. letters_of l ≡ after_transaction (caches_of letters) (letters_of letters) bus) (sym master-written)
          (subst (λ l. letters_of l ≡ after_transaction (caches_of letters) (letters_of letters) bus) same-last last-follows)

-- The same of letters that are seen as they were handed over.
module _ (shown letters : HeldLetters) (is : shown ≡ letters) (entry : Entry) where
  pub shown-core : entry.core < shown.cores → entry.core < letters.cores
  shown-core = subst (λ (l : HeldLetters). entry.core < shown.cores → entry.core < l.cores) is (λ h. h)

  pub shown-hit : is_hit ((letters_of shown).letter (cache_of entry) (line_of entry)) entry.kind ≡ true
      → is_hit ((letters_of letters).letter (cache_of entry) (line_of entry)) entry.kind ≡ true
  shown-hit = subst (λ (l : HeldLetters). is_hit ((letters_of shown).letter (cache_of entry) (line_of entry)) entry.kind ≡ true
      → is_hit ((letters_of l).letter (cache_of entry) (line_of entry)) entry.kind ≡ true) is (λ h. h)

  pub shown-letter : (letter after : Letter) → letter ≡ (letters_of shown).letter (cache_of entry) (line_of entry)
      → after ≡ after_hit letter (is_some entry.new)
      → after ≡ after_hit ((letters_of letters).letter (cache_of entry) (line_of entry)) (is_some entry.new)
  shown-letter letter after letter_is after_is =
      after_is ∙ ap (λ x. after_hit x (is_some entry.new))
      (letter_is ∙ ap (λ (l : HeldLetters). (letters_of l).letter (cache_of entry) (line_of entry)) is)

  pub shown-after : (new : LettersValue) → new ≡ after_entry (letters_of letters) entry → new ≡ after_entry (letters_of shown) entry
  shown-after new e = e ∙ ap (λ (l : HeldLetters). after_entry (letters_of l) entry) (sym is)

module _ (shown letters : HeldLetters) (is : shown ≡ letters) (bus : Transaction) where
  pub shown-allowed : IsAllowed (caches_of shown) shown.cores shown.code_lines (letters_of shown) bus
      → IsAllowed (caches_of letters) letters.cores letters.code_lines (letters_of letters) bus
  shown-allowed = subst (λ (l : HeldLetters). IsAllowed (caches_of shown) shown.cores shown.code_lines (letters_of shown) bus
      → IsAllowed (caches_of l) l.cores l.code_lines (letters_of l) bus) is (λ h. h)

  pub shown-behind : (new : LettersValue) → new ≡ after_transaction (caches_of letters) (letters_of letters) bus
      → new ≡ after_transaction (caches_of shown) (letters_of shown) bus
  shown-behind new e = e ∙ ap (λ (l : HeldLetters). after_transaction (caches_of l) (letters_of l) bus) (sym is)
