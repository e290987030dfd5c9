-- What calls on the memory do is as the law of memory says.
use Rattle.std.proofs.Common.{◌≡◌, ◌≢◌, ℕ, ◌+◌, ◌*◌, ◌<◌, inl, inr, true, false, IsTrue, Option, Some, None, List, []}
use Rattle.std.proofs.Common.{◌++◌, length, get_or, append-nil, refl, ap, sym, ◌∙◌, subst}
use Rattle.std.specs.Prelude.{slice_set, not, ◌==◌, replicate}
use Rattle.std.specs.List.{AllByRecursion}
use Rattle.std.proofs.lemmas.List.{get_or_default, get_or-replicate}
use Rattle.std_laws.proofs.ListLaws.{AllByRecursion-append}
use Rattle.image_file.specs.Value.{ImageValue, IsGood, start_memory, code_lines}
use Rattle.access_log.specs.Items.{transactions, after_items, IsLegal, own_items}
use Rattle.access_log.proofs.ItemLaws.{transactions-append}
use Rattle.access_log.specs.declared.request.Request.{Request}
use Rattle.access_log.specs.declared.Transaction.{Transaction}
use Rattle.access_log.specs.declared.Item.{Item}
use Rattle.letters.specs.Fold.{Follows}
use Rattle.mem_port.specs.declared.port.Port.{Port}
use Rattle.mem_port.specs.declared.port.Port.TheVariants.{Fetch, Access}
use Rattle.mem_port.specs.declared.port.PortState.{PortState}
use Rattle.mem_port.specs.declared.port.PortState.TheVariants.{Free, Asked, Waiting, Answered}
use Rattle.mem_port.specs.declared.cell.Cell.{Cell}
use Rattle.mem_port.specs.Ports.{core_of, MayAsk, IsWaiting, HoldsProper, HoldsCode, HoldsEntry, items_of}
use Rattle.mem_port.specs.Flat.{index_of, no_cell, cell_at, IsFound}
use Rattle.mem_port.specs.Memory.{MemoryView, AreOnLines, IsLawful, IsFresh, Keeps, LeavesPorts, Asks, Serves, Answers, Moves, Leaves, bus_items}
use Rattle.mem_port.proofs.AnswerLaws.{answer-legal, answer-no_bus, answer-other, answer-code, entry-last, bus-legal}
use Rattle.mem_port.proofs.CellLaws.{cell-same, cell-other, free-all, index_of-below}
use Rattle.mem_port.proofs.ChangeLaws.{change-lawful}
use Rattle.mem_port.proofs.PortLaws.{cases_port, own-bus_after}
use Rattle.cache_bus.specs.Caches.{caches_of}
use Rattle.cache_bus.specs.View.{CacheBusView, IsAnswer}
use Rattle.cache_bus.specs.Calls as bus_call
use Rattle.mem_system.specs.System.{SystemView, seen, system, IsQueued}
use Rattle.mem_system.proofs.QueueLaws.{queued-busy}

never-told : {A : Type 0} → IsTrue false → A
never-told t = cc

-- The cell that was read at a port's index.
pub read-cell : (cells : List Cell) (p : Port) (index : ℕ) (cell : Cell) → index ≡ index_of p → index < length cells
    → cell ≡ get_or cells index cell → cell_at cells p ≡ cell
read-cell cells p index cell at within read =
    ap (λ i. get_or cells i no_cell) (sym at) ∙ (get_or_default cells index no_cell cell within ∙ sym read)

-- A request on a port may be asked there.
pub port-proper : (s : SystemView) (p : Port) (state : PortState) → IsLawful (system s) → (cell_at s.cells p).state ≡ state
    → HoldsProper s.bus.image p state
port-proper s p state law is = let S : PortState → Type 0 = λ z. HoldsProper s.bus.image p z in subst S is (law.proper p)

pub same-bus : (b : CacheBusView) → bus_call.Keeps b b
same-bus b = record { image = refl; cores = refl; sets = refl }

-- One cell changes, and maybe caches, history and queue.
module _ (b t : CacheBusView) (cells : List Cell) (queue queue' : List ℕ) (p : Port) (index : ℕ) (cell : Cell)
    (kept : bus_call.Keeps b t) (at : index ≡ index_of p) (within : index < length cells) where
  abbrev old : MemoryView
  old = system (seen b cells queue)

  abbrev new : MemoryView
  new = system (seen t (slice_set cells index cell) queue')

  state-here : new.port p ≡ cell.state
  state-here = ap (λ (c : Cell). c.state) (cell-same cells p index cell at within)

  state-else : (q : Port) → q ≢ p → new.port q ≡ old.port q
  state-else q ne = ap (λ (c : Cell). c.state) (cell-other cells p index cell at within q ne)

  asks-here : new.asks_left p ≡ cell.asks
  asks-here = ap (λ (c : Cell). c.asks) (cell-same cells p index cell at within)

  asks-else : (q : Port) → q ≢ p → new.asks_left q ≡ old.asks_left q
  asks-else q ne = ap (λ (c : Cell). c.asks) (cell-other cells p index cell at within q ne)

  keeps : Keeps old new
  keeps = record {
    image = kept.image;
    cores = kept.cores;
    caches = ap (λ sets. Some (caches_of sets)) kept.sets;
    tells_distances = refl;
    bound = refl;
    tells_load = refl;
  }

  others : LeavesPorts p old new
  others = record { ports = state-else; asks = asks-else; distances = λ told q ne w. never-told told }

  -- No port but this one has another number of requests left.
  asks-all : old.asks_left p ≡ cell.asks → (q : Port) → new.asks_left q ≡ old.asks_left q
  asks-all same q =
      elim (cases_port p q) as (λ _. new.asks_left q ≡ old.asks_left q) [
        | inl e ↦ (let P : Port → Type 0 = λ z. new.asks_left z ≡ old.asks_left z in subst P (sym e) (asks-here ∙ sym same))
        | inr ne ↦ asks-else q ne
      ]

  busy : IsQueued (slice_set cells index cell) queue' → (q : Port) → IsWaiting (new.port q) → new.is_busy ≡ true
  busy queued q w = queued-busy (slice_set cells index cell) queue' queued (index_of q) w

  -- Nothing is done: the request is asked, waits, is taken or withdrawn.
  pub quiet-lawful : IsLawful old → core_of p < b.cores → t.items ≡ b.items → HoldsProper b.image p cell.state
      → HoldsCode b.image cell.state
      → ((core : ℕ) → HoldsEntry core (own_items b.items core) cell.state) → IsQueued (slice_set cells index cell) queue' → IsLawful new
  quiet-lawful law below same proper code entry queued =
      change-lawful p cell.state old new law (record {
        kept = keeps;
        below = below;
        is = state-here;
        ports = state-else;
        legal = rw same law.legal;
        follows = rw same law.follows;
        lines = rw same law.lines;
        others = λ core ne. ap (λ items. own_items items core) same;
        proper = proper;
        code = λ core e. code;
        entry = λ core e. rw same (entry core);
        waiting = busy queued;
        near = λ told q w. never-told told;
        unloaded = λ told free. never-told told;
      })

  pub leaves : t.items ≡ b.items → old.asks_left p ≡ cell.asks → (IsTrue new.is_busy → IsTrue old.is_busy) → Leaves p cell.state old new
  leaves same asks less = record {
    kept = keeps;
    others = others;
    port = state-here;
    asks = asks-here ∙ sym asks;
    history = same;
    busy = less;
    load = λ told. never-told told;
  }

  pub asks : (r : Request) → t.items ≡ b.items → cell.state ≡ Asked r → cell.asks + 1 ≡ old.asks_left p → queue' ≡ queue → Asks p r old new
  asks r same state left stays = record {
    kept = keeps;
    others = others;
    port = state-here ∙ state;
    asks = ap (λ n. n + 1) asks-here ∙ left;
    history = same;
    busy = ap (λ caches. not (length caches == 0)) stays;
    load = λ told. never-told told;
  }

  -- A request waits as it is served.
  pub serves-waiting : (r : Request) → t.items ≡ b.items → cell.state ≡ Waiting r → old.asks_left p ≡ cell.asks → Serves p r old new
  serves-waiting r same state asks = record {
    kept = keeps;
    others = others;
    asks = asks-here ∙ sym asks;
    outcome = inl (state-here ∙ state, same);
    busy = λ now. inr (state-here ∙ state);
    load = λ told. never-told told;
  }

  -- It is answered, behind a transaction or without one.
  module _ (m : CacheBusView) (r : Request) (word : ℕ) (bus : Option Transaction) (law : IsLawful old)
      (kept' : bus_call.Keeps b m) (items : m.items ≡ b.items ++ bus_items bus) (items' : t.items ≡ m.items ++ items_of p r word)
      (answer : IsAnswer m p r word) (may : MayAsk b.image p r) (state : cell.state ≡ Answered r word) where
    found : (q : Port) → IsAnswer m q r word → IsFound b.image (after_items (start_memory b.image) m.items) q r word
    found (Fetch core) word-is = rw kept'.image at word-is
    found (Access core) word-is = rw kept'.image at word-is

    legal-before : IsLegal (start_memory b.image) m.items
    legal-before = rw items (bus-legal (start_memory b.image) b.items bus law.legal)

    history : t.items ≡ (b.items ++ bus_items bus) ++ items_of p r word
    history = items' ∙ ap (λ xs. xs ++ items_of p r word) items

    entry : (core : ℕ) → Access core ≡ p → HoldsEntry core (own_items t.items core) (Answered r word)
    entry core e =
        let P : Port → Type 0 = λ q. HoldsEntry core (own_items (m.items ++ items_of q r word) core) (Answered r word) in
        let H : List Item → Type 0 = λ xs. HoldsEntry core (own_items xs core) (Answered r word) in
        subst H (sym items') (subst P e (entry-last m.items core r word))

    on-lines : AreOnLines b.image (bus_items bus) → AreOnLines b.image t.items
    on-lines lines =
        let P : Transaction → Type 0 = λ transaction. transaction.line < b.image.memory_lines in
        let made : transactions t.items ≡ transactions b.items ++ transactions (bus_items bus) =
        ap transactions history ∙ transactions-append (b.items ++ bus_items bus) (items_of p r word)
        ∙ ap (λ more. transactions (b.items ++ bus_items bus) ++ more) (answer-no_bus p r word)
        ∙ append-nil (transactions (b.items ++ bus_items bus)) ∙ transactions-append b.items (bus_items bus) in
        subst (AllByRecursion P) (sym made) (AllByRecursion-append P (transactions b.items) (transactions (bus_items bus)) law.lines lines)

    pub answered-lawful : core_of p < b.cores → Follows (Some (caches_of b.sets)) b.cores (code_lines b.image) t.items
        → AreOnLines b.image (bus_items bus) → IsQueued (slice_set cells index cell) queue' → IsLawful new
    answered-lawful below follows lines queued =
        change-lawful p (Answered r word) old new law (record {
          kept = keeps;
          below = below;
          is = state-here ∙ state;
          ports = state-else;
          legal = rw items' (answer-legal b.image m.items p r word (found p answer) legal-before);
          follows = follows;
          lines = on-lines lines;
          others = λ core ne. ap (λ xs. own_items xs core) items' ∙ (answer-other m.items p r word core ne
              ∙ (ap (λ xs. own_items xs core) items ∙ own-bus_after b.items bus core));
          proper = may;
          code = λ core e. answer-code b.image (after_items (start_memory b.image) m.items) p r word core (found p answer) e;
          entry = entry;
          waiting = busy queued;
          near = λ told q w. never-told told;
          unloaded = λ told free. never-told told;
        })

    -- As it is served.
    pub serves-answered : bus ≡ None → queue' ≡ queue → old.asks_left p ≡ cell.asks → Serves p r old new
    serves-answered none stays asks = record {
      kept = keeps;
      others = others;
      asks = asks-here ∙ sym asks;
      outcome = inr (
        word,
        state-here ∙ state,
        history ∙ (ap (λ o. (b.items ++ bus_items o) ++ items_of p r word) none ∙ ap (λ xs. xs ++ items_of p r word) (append-nil b.items)),
      );
      busy = λ now. (let B : List ℕ → Type 0 = λ caches. IsTrue (not (length caches == 0)) in inl (subst B stays now));
      load = λ told. never-told told;
    }

    -- By a step.
    pub answers : old.port p ≡ Waiting r → Answers p r word bus old new
    answers was = record { was = was; is = state-here ∙ state; others = state-else; history = history }

    pub moves : old.port p ≡ Waiting r → old.asks_left p ≡ cell.asks → old.is_busy ≡ true → Moves old new
    moves was asks was_busy = record {
      kept = keeps;
      was_busy = was_busy;
      asks = asks-all asks;
      outcome = inr (p, (r, (word, (bus, answers was))));
      distances = λ told q w. never-told told;
      load = λ told. never-told told;
    }

-- Before the first call.

free-lawful : (b : CacheBusView) (cells : List Cell) → IsGood b.image → b.items ≡ [] → ((q : Port) → (cell_at cells q).state ≡ Free)
    → IsLawful (system (seen b cells []))
free-lawful b cells good none free = record {
  good = good;
  legal = rw none tt;
  follows = rw none tt;
  lines = rw none tt;
  within = λ core le. rw none refl;
  proper = λ q. (let S : PortState → Type 0 = λ s. HoldsProper b.image q s in subst S (sym (free q)) tt);
  fetched = λ core. (let S : PortState → Type 0 = λ s. HoldsCode b.image s in subst S (sym (free (Fetch core))) tt);
  served = λ core. (let S : PortState → Type 0 = λ s. HoldsEntry core (own_items b.items core) s in subst S (sym (free (Access core))) tt);
  waiting = λ q w. (let P : PortState → Type 0 = λ s. IsWaiting s in absurd (subst P (free q) w));
  near = λ told q w. never-told told;
  unloaded = λ told f. never-told told;
}

pub fresh-system : (image : ImageValue) (cores sets asks : ℕ) (b : CacheBusView) (cells : List Cell) (queue : List ℕ)
    → bus_call.IsEmpty image cores sets b → cells ≡ replicate (2 * cores) (record { state = Free; asks = asks }) → queue ≡ []
    → IsFresh image cores asks (Some (caches_of sets)) (system (seen b cells queue))
fresh-system image cores sets asks b cells queue empty all none =
    rw (all, none) (record {
      lawful = free-lawful b (replicate (2 * cores) (record { state = Free; asks = asks })) empty.good empty.items
          (λ p. free-all (2 * cores) (index_of p) asks);
      image_is = empty.image_is;
      cores_are = empty.cores_are;
      caches_are = ap (λ sets. Some (caches_of sets)) empty.sets_are;
      history = empty.items;
      ports = λ p. free-all (2 * cores) (index_of p) asks;
      asks_left = λ p lt. ap (λ (c : Cell). c.asks)
          (get_or-replicate (2 * cores) (index_of p) (record { state = Free; asks = asks }) no_cell (index_of-below p cores lt));
      idle = refl;
    })
