-- Each call on the memory is as the law says, and does what was promised of the queue.
use Rattle.std.proofs.Common.{◌≡◌, ℕ, suc, ◌+◌, ◌-◌, ◌*◌, ◌<◌, ◌≤◌, inl, inr, Bool, true, false, IsTrue, Option, Some, None, List, [], ◌∷◌}
use Rattle.std.proofs.Common.{◌++◌, length, get_or, append-nil, refl, ap, sym, ◌∙◌, subst, arith}
use Rattle.std.specs.Prelude.{slice_set, not, ◌&&◌, ◌==◌, ◌/◌, ◌%◌, filter}
use Rattle.std.specs.List.{sum_by}
use Rattle.std.proofs.lemmas.Bool.{cases_eq, cases_lt, eq-eqb, ne_eqb}
use Rattle.std.proofs.lemmas.List.{get_or_default, get_or_past}
use Rattle.std.proofs.lemmas.List.Sums.{sum_by-set}
use Rattle.mips_isa.specs.Kinds.{stores}
use Rattle.image_file.specs.Value.{ImageValue, memory_bytes, code_lines}
use Rattle.access_log.specs.declared.request.Request.{Request}
use Rattle.access_log.specs.declared.Transaction.{Transaction}
use Rattle.access_log.specs.declared.Item.TheVariants.{Bus}
use Rattle.moesi_master.specs.Moesi.{suffices}
use Rattle.moesi_master.specs.Phases.{is_on}
use Rattle.letters.specs.Fold.{Follows}
use Rattle.mem_port.specs.declared.port.Port.{Port}
use Rattle.mem_port.specs.declared.port.Moved.TheVariants as moved
use Rattle.mem_port.specs.declared.port.PortState.{PortState}
use Rattle.mem_port.specs.declared.port.PortState.TheVariants.{Free, Asked, Waiting, Answered, Closed}
use Rattle.mem_port.specs.declared.cell.Cell.{Cell}
use Rattle.mem_port.specs.Calls.{Serve, Step}
use Rattle.mem_port.specs.Ports.{core_of, MayAsk, IsOpen, IsUnanswered, items_of}
use Rattle.mem_port.specs.Flat.{index_of, no_cell, cell_at, pending}
use Rattle.mem_port.specs.Memory.{AreOnLines, IsLawful, Serves, Answers, Moves, Leaves, bus_items}
use Rattle.mem_port.proofs.CellLaws.{cell-same}
use Rattle.cache_bus.specs.Caches.{caches_of}
use Rattle.cache_bus.specs.View.{CacheBusView, port_of, letter_now, serves_now, IsAnswer}
use Rattle.cache_bus.specs.Calls as bus_call
use Rattle.cache_bus.proofs.EndLaws.{may-inside}
use Rattle.mem_system.specs.System.{seen, system, cell_in, waiting, weight, idle, IsQueued}
use Rattle.mem_system.specs.System.{IsQuiet, is_hit_on, AnswersOrJoins, IsNeeded, AnswersFirst, MakesHit, IsMade}
use Rattle.mem_system.proofs.QueueLaws.{queued-quiet, queued-joins, queued-leaves, queued-first, first-waits, length-without}
use Rattle.mem_system.proofs.SystemLaws.{read-cell, port-proper, same-bus, quiet-lawful, leaves, serves-waiting, answered-lawful}
use Rattle.mem_system.proofs.SystemLaws.{serves-answered, answers, moves}

-- Where no transaction is on, a request is done as it is served where it is a hit by the history's letters.
and-true : (x : Bool) → (x && not false) ≡ x
and-true true = refl
and-true false = refl

pub quiet-serves : (b : CacheBusView) (cache : ℕ) (r : Request) → IsQuiet b → serves_now b cache r ≡ is_hit_on b cache r
quiet-serves b cache r quiet = rw (quiet.fresh cache) (and-true (is_hit_on b cache r))

-- The transaction that a request inside memory needs is of a line of memory.
needed-lines : (image : ImageValue) (hit : Bool) (cache : ℕ) (r : Request) (bus : Option Transaction) → IsNeeded hit cache r bus
    → r.addr < memory_bytes image → AreOnLines image (bus_items bus)
needed-lines image true cache r bus none inside = subst (λ (o : Option Transaction). AreOnLines image (bus_items o)) (sym none) tt
needed-lines image false cache r bus needed inside =
    subst (λ (o : Option Transaction). AreOnLines image (bus_items o)) (sym needed.1.0) (omega (arith, needed.1.1.1.0, inside), tt)

-- An answer leaves the bus as it was.
pub quiet-kept : (b t : CacheBusView) → t.bus ≡ b.bus → t.slaves ≡ b.slaves → IsQuiet b → IsQuiet t
quiet-kept b t bus slaves quiet = record { off = rw bus quiet.off; fresh = λ cache. rw slaves (quiet.fresh cache) }

pub quiet-off : (b : CacheBusView) → IsQuiet b → is_on b.bus.phase ≡ true → ⊥
quiet-off b quiet on = let off : false ≡ true = sym (ap is_on quiet.off) ∙ on in cc

-- A request that is a hit needs no transaction.
pub hit-makes : (b : CacheBusView) (cache : ℕ) (r : Request) → IsQuiet b → serves_now b cache r ≡ true → MakesHit cache r b b
hit-makes b cache r quiet hit =
    let is = sym (quiet-serves b cache r quiet) ∙ hit in
    record {
      kept = same-bus b;
      items = (None, (rw is refl, sym (append-nil b.items)));
      spare = omega arith;
      quiet = quiet;
      hit = hit;
      follows = λ follows. follows;
    }

-- Another one becomes a hit by a whole transaction.
pub miss-makes : (b m t : CacheBusView) (cache : ℕ) (r : Request) → IsQuiet b → serves_now b cache r ≡ false → bus_call.Begins cache r b m
    → bus_call.Ends m t → MakesHit cache r b t
miss-makes b m t cache r quiet miss begins ends =
    let is = sym (quiet-serves b cache r quiet) ∙ miss in
    let made = ends.items in
    let of = made.1.1 in
    let now : IsQuiet t = record { off = ends.off; fresh = ends.fresh } in
    record {
      kept = record {
        image = ends.kept.image ∙ begins.kept.image;
        cores = ends.kept.cores ∙ begins.kept.cores;
        sets = ends.kept.sets ∙ begins.kept.sets;
      };
      items = (
        Some made.0,
        (
          rw is (made.0, (refl, (of.master ∙ begins.master, (of.line ∙ begins.line, of.im ∙ begins.im)))),
          made.1.0 ∙ ap (λ items. items ++ Bus made.0 ∷ []) begins.items,
        ),
      );
      spare = omega (arith, ends.spare, begins.spare);
      quiet = now;
      hit = rw (hit, ends.fresh cache) refl;
      follows = λ follows. rw (← begins.kept.image, ← begins.kept.cores, ← begins.kept.sets)
          (ends.follows (rw (begins.kept.image, begins.kept.cores, begins.kept.sets, begins.items) follows));
    }
  where
    hit : suffices (letter_now t cache (r.addr / 8)) (stores r.kind) ≡ true
    hit = rw (begins.master, begins.line, begins.im) at ends.hit

-- A sum over cells, where one changes.
pub sum-set : (f : Cell → ℕ) (cells : List Cell) (index : ℕ) (x cell : Cell) → index < length cells → x ≡ get_or cells index x
    → sum_by f (slice_set cells index cell) + f x ≡ sum_by f cells + f cell
sum-set f cells index x cell within read =
    let s = sum_by-set f cells index cell x within in
    let b : f (get_or cells index x) ≡ f x = ap f (sym read) in
    omega (arith, s, b)

-- What a request weighs.
weight-is : (x : Cell) (state : PortState) → x.state ≡ state → weight x ≡ 2 * (x.asks + (pending state + waiting state))
weight-is x state is = ap (λ z. 2 * (x.asks + (pending z + waiting z))) is

idle-is : (x : Cell) (state : PortState) → x.state ≡ state → idle x ≡ 1 - waiting state
idle-is x state is = ap (λ z. 1 - waiting z) is

same-asked : (r q : Request) → Asked r ≡ Asked q → r ≡ q
same-asked r q e = cc

-- A queue that isn't empty without a cache wasn't empty before.
filtered-busy : (index : ℕ) (queue : List ℕ) → IsTrue (not (length (filter (λ cache. not (cache == index)) queue) == 0))
    → IsTrue (not (length queue == 0))
filtered-busy index [] now = now
filtered-busy index (cache ∷ queue) now = rw (ne_eqb (suc (length queue)) 0 (λ e. omega (arith, e))) refl

-- A call on a port, whose cell was read.
module _ (b : CacheBusView) (cells : List Cell) (queue : List ℕ) (p : Port) (index : ℕ) (x : Cell)
    (at : index ≡ index_of p) (within : index < length cells) (read : x ≡ get_or cells index x) where
  cell-is : cell_in cells index ≡ x
  cell-is = get_or_default cells index no_cell x within ∙ sym read

  waits-as : (state : PortState) → x.state ≡ state → waiting (cell_in cells index).state ≡ waiting state
  waits-as state is = ap (λ (c : Cell). waiting c.state) cell-is ∙ ap waiting is

  port-is : (cell_at cells p).state ≡ x.state
  port-is = ap (λ (c : Cell). c.state) (read-cell cells p index x at within read)

  asks-are : (cell_at cells p).asks ≡ x.asks
  asks-are = ap (λ (c : Cell). c.asks) (read-cell cells p index x at within read)

  -- No item of a history is of a request that rests.
  module _ (law : IsLawful (system (seen b cells queue))) (below : core_of p < b.cores) (queued : IsQueued cells queue) where
    pub asked-lawful : (r : Request) (asks : ℕ) → x.state ≡ Free → MayAsk b.image p r
        → IsLawful (system (seen b (slice_set cells index (record { state = Asked r; asks = asks })) queue))
    asked-lawful r asks free may =
        quiet-lawful b b cells queue queue p index (record { state = Asked r; asks = asks }) (same-bus b) at within law below refl may tt
        (λ core. tt) (queued-quiet cells queue index (record { state = Asked r; asks = asks }) within queued (sym (waits-as Free free)))

    pub taken-lawful : (r : Request) (word asks : ℕ) → x.state ≡ Answered r word
        → IsLawful (system (seen b (slice_set cells index (record { state = Free; asks = asks })) queue))
    taken-lawful r word asks answered =
        quiet-lawful b b cells queue queue p index (record { state = Free; asks = asks }) (same-bus b) at within law below refl tt tt
        (λ core. tt)
        (queued-quiet cells queue index (record { state = Free; asks = asks }) within queued (sym (waits-as (Answered r word) answered)))

    -- A request waits as it is served.
    pub joined-queued : (r : Request) (asks : ℕ) → x.state ≡ Asked r
        → IsQueued (slice_set cells index (record { state = Waiting r; asks = asks })) (queue ++ index ∷ [])
    joined-queued r asks asked =
        queued-joins cells queue index (record { state = Waiting r; asks = asks }) within queued (waits-as (Asked r) asked) refl

    pub joined-lawful : (r : Request) (asks : ℕ) → x.state ≡ Asked r
        → IsLawful (system (seen b (slice_set cells index (record { state = Waiting r; asks = asks })) (queue ++ index ∷ [])))
    joined-lawful r asks asked =
        quiet-lawful b b cells queue (queue ++ index ∷ []) p index (record { state = Waiting r; asks = asks }) (same-bus b) at within law
        below refl (port-proper (seen b cells queue) p (Asked r) law (port-is ∙ asked)) tt (λ core. tt)
        (queued-joins cells queue index (record { state = Waiting r; asks = asks }) within queued (waits-as (Asked r) asked) refl)

    -- It is withdrawn.
    pub closed-queued : (asks : ℕ)
        → IsQueued (slice_set cells index (record { state = Closed; asks = asks })) (filter (λ cache. not (cache == index)) queue)
    closed-queued asks = queued-leaves cells queue index (record { state = Closed; asks = asks }) within queued refl

    pub closed-lawful : (asks : ℕ)
        → IsLawful (system (seen b (slice_set cells index (record { state = Closed; asks = asks }))
        (filter (λ cache. not (cache == index)) queue)))
    closed-lawful asks =
        quiet-lawful b b cells queue (filter (λ cache. not (cache == index)) queue) p index (record { state = Closed; asks = asks })
        (same-bus b) at within law below refl tt tt (λ core. tt) (closed-queued asks)

    pub closed-leaves :
        Leaves p Closed (system (seen b cells queue))
        (system (seen b (slice_set cells index (record { state = Closed; asks = x.asks })) (filter (λ cache. not (cache == index)) queue)))
    closed-leaves =
        leaves b b cells queue (filter (λ cache. not (cache == index)) queue) p index (record { state = Closed; asks = x.asks })
        (same-bus b) at within refl asks-are (λ now. filtered-busy index queue now)

  pub joined-serves : (r : Request) → x.state ≡ Asked r → (q : Request) → (cell_at cells p).state ≡ Asked q
      → Serves p q (system (seen b cells queue))
      (system (seen b (slice_set cells index (record { state = Waiting r; asks = x.asks })) (queue ++ index ∷ [])))
  joined-serves r asked q is =
      serves-waiting b b cells queue (queue ++ index ∷ []) p index (record { state = Waiting r; asks = x.asks }) (same-bus b) at within q
      refl (ap Waiting (same-asked r q (sym asked ∙ (sym port-is ∙ is)))) asks-are

  pub joined-made : (r : Request) → x.state ≡ Asked r → IsQuiet b → serves_now b index r ≡ false
      → IsMade (Serve p) (seen b cells queue)
      (seen b (slice_set cells index (record { state = Waiting r; asks = x.asks })) (queue ++ index ∷ []))
  joined-made r asked quiet miss = record {
    obeys = joined-serves r asked;
    queue = λ q is.
        (let J : Request → Type 0 = λ z. AnswersOrJoins (is_hit_on b (index_of p) z) p z (seen b cells queue)
        (seen b (slice_set cells index (record { state = Waiting r; asks = x.asks })) (queue ++ index ∷ [])) in
        let no-hit : is_hit_on b (index_of p) r ≡ false = rw at at (sym (quiet-serves b index r quiet) ∙ miss) in
        subst J (same-asked r q (sym asked ∙ (sym port-is ∙ is)))
        (rw no-hit (
          ap (λ (c : Cell). c.state) (cell-same cells p index (record { state = Waiting r; asks = x.asks }) at within),
          ap (λ i. queue ++ i ∷ []) at,
        )));
  }

  -- A hit is answered as it is served.
  module _ (t : CacheBusView) (r : Request) (word : ℕ) (law : IsLawful (system (seen b cells queue))) (below : core_of p < b.cores)
      (queued : IsQueued cells queue) (asked : x.state ≡ Asked r) (kept : bus_call.Keeps b t)
      (items : t.items ≡ b.items ++ items_of p r word) (answer : IsAnswer b p r word) (follows : bus_call.StillFollows b t) where
    abbrev done : Cell
    done = record { state = Answered r word; asks = x.asks }

    hit-may : MayAsk b.image p r
    hit-may = port-proper (seen b cells queue) p (Asked r) law (port-is ∙ asked)

    pub hit-queued : IsQueued (slice_set cells index (record { state = Answered r word; asks = x.asks })) queue
    hit-queued = queued-quiet cells queue index done within queued (sym (waits-as (Asked r) asked))

    pub hit-lawful : IsLawful (system (seen t (slice_set cells index (record { state = Answered r word; asks = x.asks })) queue))
    hit-lawful =
        answered-lawful b t cells queue queue p index done kept at within b r word None law (same-bus b) (sym (append-nil b.items)) items
        answer hit-may refl below (follows law.follows) tt hit-queued

    pub hit-serves : (q : Request) → (cell_at cells p).state ≡ Asked q → Serves p q (system (seen b cells queue))
        (system (seen t (slice_set cells index (record { state = Answered r word; asks = x.asks })) queue))
    hit-serves q is =
        (let S : Request → Type 0 = λ z. Serves p z (system (seen b cells queue)) (system (seen t (slice_set cells index done) queue)) in
        subst S (same-asked r q (sym asked ∙ (sym port-is ∙ is)))
        (serves-answered b t cells queue queue p index done kept at within b r word None law (same-bus b) (sym (append-nil b.items)) items
        answer hit-may refl refl refl asks-are))

    pub hit-made : IsQuiet b → serves_now b index r ≡ true → IsMade (Serve p) (seen b cells queue)
        (seen t (slice_set cells index (record { state = Answered r word; asks = x.asks })) queue)
    hit-made quiet hit = record {
      obeys = hit-serves;
      queue = λ q is.
          (let J : Request → Type 0 = λ z. AnswersOrJoins (is_hit_on b (index_of p) z) p z (seen b cells queue)
          (seen t (slice_set cells index done) queue) in
          let is-hit : is_hit_on b (index_of p) r ≡ true = rw at at (sym (quiet-serves b index r quiet) ∙ hit) in
          subst J (same-asked r q (sym asked ∙ (sym port-is ∙ is)))
          (rw is-hit ((word, ap (λ (c : Cell). c.state) (cell-same cells p index done at within)), refl)));
    }

-- Room: what the requests may still make, and who may still join.
module _ (cells : List Cell) (index : ℕ) (x : Cell) (within : index < length cells) (read : x ≡ get_or cells index x) where
  pub answered-room : (r : Request) (word spare left : ℕ) → x.state ≡ Asked r → sum_by weight cells ≤ spare → spare ≤ left + 1
      → sum_by weight (slice_set cells index (record { state = Answered r word; asks = x.asks })) ≤ left
  answered-room r word spare left is room less =
      let s = sum-set weight cells index x (record { state = Answered r word; asks = x.asks }) within read in
      let w = weight-is x (Asked r) is in
      omega (arith, s, w)

  pub answered-idle : (r : Request) (word count capacity : ℕ) → x.state ≡ Asked r → count + sum_by idle cells ≤ capacity
      → count + sum_by idle (slice_set cells index (record { state = Answered r word; asks = x.asks })) ≤ capacity
  answered-idle r word count capacity is room =
      let s = sum-set idle cells index x (record { state = Answered r word; asks = x.asks }) within read in
      let w = idle-is x (Asked r) is in
      omega (arith, s, w)

  pub joined-room : (r : Request) (spare : ℕ) → x.state ≡ Asked r → sum_by weight cells ≤ spare
      → sum_by weight (slice_set cells index (record { state = Waiting r; asks = x.asks })) ≤ spare
  joined-room r spare is room =
      let s = sum-set weight cells index x (record { state = Waiting r; asks = x.asks }) within read in
      let w = weight-is x (Asked r) is in
      omega (arith, s, w)

  pub joined-idle : (r : Request) (count capacity : ℕ) → x.state ≡ Asked r → count + sum_by idle cells ≤ capacity
      → (count + 1) + sum_by idle (slice_set cells index (record { state = Waiting r; asks = x.asks })) ≤ capacity
  joined-idle r count capacity is room =
      let s = sum-set idle cells index x (record { state = Waiting r; asks = x.asks }) within read in
      let w = idle-is x (Asked r) is in
      omega (arith, s, w)

  pub closed-room : (spare : ℕ) → sum_by weight cells ≤ spare
      → sum_by weight (slice_set cells index (record { state = Closed; asks = x.asks })) ≤ spare
  closed-room spare room =
      let s = sum-set weight cells index x (record { state = Closed; asks = x.asks }) within read in
      omega (arith, s)

  pub closed-idle : (queue : List ℕ) (count capacity : ℕ) → IsQueued cells queue → length queue ≡ count
      → count + sum_by idle cells ≤ capacity
      → length (filter (λ cache. not (cache == index)) queue)
      + sum_by idle (slice_set cells index (record { state = Closed; asks = x.asks })) ≤ capacity
  closed-idle queue count capacity queued many room =
      let s = sum-set idle cells index x (record { state = Closed; asks = x.asks }) within read in
      let l = length-without index queue in
      let w = queued index ∙ ap (λ (c : Cell). waiting c.state) (get_or_default cells index no_cell x within ∙ sym read) in
      omega (arith, s, l, w, many)

-- A request that is open and has no answer.
pub open-unanswered : (state : PortState) → IsOpen state → ((r : Request) (word : ℕ) → state ≡ Answered r word → ⊥) → IsUnanswered state
open-unanswered Free is_open none = absurd is_open
open-unanswered (Asked r) is_open none = tt
open-unanswered (Waiting r) is_open none = tt
open-unanswered (Answered r word) is_open none = absurd (none r word refl)
open-unanswered Closed is_open none = absurd is_open

-- Cache and port.
pub place-port : (cache : ℕ) → index_of (port_of cache) ≡ cache
place-port cache = elim (cases_eq (cache % 2) 0) as (λ _. index_of (port_of cache) ≡ cache) [
  | inl e ↦ rw (eq-eqb (cache % 2) 0 e) (omega arith)
  | inr ne ↦ rw (ne_eqb (cache % 2) 0 ne) (omega arith)
]

core-port : (cache cores : ℕ) → cache < 2 * cores → core_of (port_of cache) < cores
core-port cache cores below = elim (cases_eq (cache % 2) 0) as (λ _. core_of (port_of cache) < cores) [
  | inl e ↦ rw (eq-eqb (cache % 2) 0 e) (omega arith)
  | inr ne ↦ rw (ne_eqb (cache % 2) 0 ne) (omega arith)
]

waits-is : (state : PortState) → 1 ≤ waiting state → (r : Request) × (state ≡ Waiting r)
waits-is Free some = absurd (omega arith)
waits-is (Asked r) some = absurd (omega arith)
waits-is (Waiting r) some = (r, refl)
waits-is (Answered r word) some = absurd (omega arith)
waits-is Closed some = absurd (omega arith)

waits-most : (state : PortState) → waiting state ≤ 1
waits-most Free = omega arith
waits-most (Asked r) = omega arith
waits-most (Waiting r) = omega arith
waits-most (Answered r word) = omega arith
waits-most Closed = omega arith

-- The first cache of the queue, and its answer.
module _ (b : CacheBusView) (cells : List Cell) (queue caches : List ℕ) (cache : ℕ)
    (law : IsLawful (system (seen b cells queue))) (queued : IsQueued cells queue) (len : length cells ≡ 2 * b.cores)
    (first : queue ≡ cache ∷ caches) where
  first-queued : IsQueued cells (cache ∷ caches)
  first-queued = subst (λ xs. IsQueued cells xs) first queued

  first-some : 1 ≤ waiting (cell_in cells cache).state
  first-some = (first-waits cells cache caches first-queued).0

  pub first-within : cache < length cells
  first-within = elim (cases_lt cache (length cells)) as (λ _. cache < length cells) [
    | inl below ↦ below
    | inr above ↦ (let e = ap (λ (c : Cell). waiting c.state) (get_or_past cells cache no_cell above) in
        let s = first-some in absurd (omega (arith, e, s)))
  ]

  first-busy : not (length queue == 0) ≡ true
  first-busy = rw first (rw (ne_eqb (suc (length caches)) 0 (λ e. omega (arith, e))) refl)

  module _ (p : Port) (port : p ≡ port_of cache) where
    port-at : cache ≡ index_of p
    port-at = sym (ap index_of port ∙ place-port cache)

    pub first-core : core_of p < b.cores
    first-core =
        let C : Port → Type 0 = λ q. core_of q < b.cores in
        let w = first-within in
        subst C (sym port) (core-port cache b.cores (omega (arith, w, len)))

    module _ (x : Cell) (read : x ≡ get_or cells cache x) where
      first-cell : cell_in cells cache ≡ x
      first-cell = get_or_default cells cache no_cell x first-within ∙ sym read

      pub first-state : (r : Request) × (x.state ≡ Waiting r)
      first-state =
          waits-is x.state (let S : PortState → Type 0 = λ z. 1 ≤ waiting z in subst S (ap (λ (c : Cell). c.state) first-cell) first-some)

      first-port : (r : Request) → x.state ≡ Waiting r → (cell_at cells p).state ≡ Waiting r
      first-port r is = ap (λ (c : Cell). c.state) (read-cell cells p cache x port-at first-within read) ∙ is

      pub first-may : (r : Request) → x.state ≡ Waiting r → MayAsk b.image p r
      first-may r is = port-proper (seen b cells queue) p (Waiting r) law (first-port r is)

      -- There is room for a transaction and an entry.
      pub first-room : (r : Request) (spare : ℕ) → x.state ≡ Waiting r → sum_by weight cells ≤ spare → 2 ≤ spare
      first-room r spare is room =
          let s = sum-set weight cells cache x no_cell first-within read in
          let w = weight-is x (Waiting r) is in
          omega (arith, s, w)

      pub step-room : (r : Request) (word spare left : ℕ) → x.state ≡ Waiting r → sum_by weight cells ≤ spare → spare ≤ left + 2
          → sum_by weight (slice_set cells cache (record { state = Answered r word; asks = x.asks })) ≤ left
      step-room r word spare left is room less =
          let s = sum-set weight cells cache x (record { state = Answered r word; asks = x.asks }) first-within read in
          let w = weight-is x (Waiting r) is in
          omega (arith, s, w)

      pub step-idle : (r : Request) (word count capacity : ℕ) → x.state ≡ Waiting r → length queue ≡ count
          → count + sum_by idle cells ≤ capacity
          → length caches + sum_by idle (slice_set cells cache (record { state = Answered r word; asks = x.asks })) ≤ capacity
      step-idle r word count capacity is many room =
          let s = sum-set idle cells cache x (record { state = Answered r word; asks = x.asks }) first-within read in
          let w = idle-is x (Waiting r) is in
          let l : length queue ≡ suc (length caches) = ap (λ xs. length xs) first in
          omega (arith, s, w, l, many)

      module _ (m t : CacheBusView) (r : Request) (word : ℕ) (is : x.state ≡ Waiting r) (made : MakesHit cache r b m)
          (kept : bus_call.Keeps m t) (items : t.items ≡ m.items ++ items_of p r word) (answer : IsAnswer m p r word)
          (follows : bus_call.StillFollows m t) where
        abbrev after : Cell
        after = record { state = Answered r word; asks = x.asks }

        kept-all : bus_call.Keeps b t
        kept-all = record {
          image = kept.image ∙ made.kept.image;
          cores = kept.cores ∙ made.kept.cores;
          sets = kept.sets ∙ made.kept.sets;
        }

        follows-all : Follows (Some (caches_of b.sets)) b.cores (code_lines b.image) t.items
        follows-all = rw (← made.kept.image, ← made.kept.cores, ← made.kept.sets)
            (follows (rw (made.kept.image, made.kept.cores, made.kept.sets) (made.follows law.follows)))

        pub step-queued : IsQueued (slice_set cells cache (record { state = Answered r word; asks = x.asks })) caches
        step-queued = queued-first cells cache caches after first-within first-queued (waits-most (cell_in cells cache).state) refl

        pub step-lawful : IsLawful (system (seen t (slice_set cells cache (record { state = Answered r word; asks = x.asks })) caches))
        step-lawful =
            answered-lawful b t cells queue caches p cache after kept-all port-at first-within m r word made.items.0 law made.kept
            made.items.1.1 items answer (first-may r is) refl first-core follows-all
            (needed-lines b.image (is_hit_on b cache r) cache r made.items.0 made.items.1.0 (may-inside b.image p r law.good (first-may r is)))
            step-queued

        asks-same : (cell_at cells p).asks ≡ x.asks
        asks-same = ap (λ (c : Cell). c.asks) (read-cell cells p cache x port-at first-within read)

        pub step-moves : Moves (system (seen b cells queue))
            (system (seen t (slice_set cells cache (record { state = Answered r word; asks = x.asks })) caches))
        step-moves =
            moves b t cells queue caches p cache after kept-all port-at first-within m r word made.items.0 law made.kept
            made.items.1.1 items answer (first-may r is) refl (first-port r is) asks-same first-busy

        step-answers : Answers (port_of cache) r word made.items.0 (system (seen b cells queue))
            (system (seen t (slice_set cells cache after) caches))
        step-answers =
            let A : Port → Type 0 = λ q. Answers q r word made.items.0 (system (seen b cells queue))
            (system (seen t (slice_set cells cache after) caches)) in
            subst A port
            (answers b t cells queue caches p cache after kept-all port-at first-within m r word made.items.0 law made.kept
            made.items.1.1 items answer (first-may r is) refl (first-port r is))

        pub step-made : (choice : ℕ) → IsMade (Step choice moved.Moved) (seen b cells queue)
            (seen t (slice_set cells cache (record { state = Answered r word; asks = x.asks })) caches)
        step-made choice = record {
          obeys = step-moves;
          queue =
              (let A : List ℕ → Type 0 = λ xs. AnswersFirst xs (seen b cells queue) (seen t (slice_set cells cache after) caches) in
              subst A (sym first) (refl, (r, (word, (made.items.0, (made.items.1.0, step-answers))))));
        }
