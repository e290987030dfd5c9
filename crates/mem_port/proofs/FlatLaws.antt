-- A memory that answers each request as it is served keeps the law.
use Rattle.std.proofs.Common.{◌≡◌, ◌≢◌, ℕ, ◌+◌, ◌*◌, ◌<◌, ◌≤◌, inl, inr, List, [], ◌++◌, length, get_or, refl}
use Rattle.std.proofs.Common.{ap, sym, ◌∙◌, arith, subst, None}
use Rattle.std.specs.Prelude.{slice_set, replicate}
use Rattle.std.specs.List.{sum_by}
use Rattle.std.proofs.lemmas.List.{get_or_default, get_or-replicate}
use Rattle.std.proofs.lemmas.List.Sums.{sum_by-set}
use Rattle.image_file.specs.Value.{ImageValue, IsGood, start_memory}
use Rattle.access_log.specs.Items.{transactions, after_items, IsLegal, own_items}
use Rattle.access_log.proofs.ItemLaws.{transactions-append, after_items-append}
use Rattle.access_log.specs.declared.request.Request.{Request}
use Rattle.access_log.specs.declared.Item.{Item}
use Rattle.mem_port.specs.declared.port.Port.{Port}
use Rattle.mem_port.specs.declared.port.Port.TheVariants.{Fetch, Access}
use Rattle.mem_port.specs.declared.port.PortState.{PortState}
use Rattle.mem_port.specs.declared.port.PortState.TheVariants.{Free, Asked, Answered}
use Rattle.mem_port.specs.declared.cell.Cell.{Cell}
use Rattle.mem_port.specs.Ports.{core_of, MayAsk, IsWaiting, HoldsProper, HoldsCode, HoldsEntry, items_of}
use Rattle.mem_port.specs.Memory.{IsLawful, IsFresh}
use Rattle.mem_port.specs.Flat.{index_of, no_cell, cell_at, flat, IsFound, pending, weight}
use Rattle.mem_port.proofs.AnswerLaws.{answer-legal, answer-no_bus, answer-other, answer-code, entry-last}
use Rattle.mem_port.proofs.CellLaws.{cell-same, cell-other, free-all, index_of-below}
use Rattle.mem_port.proofs.ChangeLaws.{change-lawful}
use Rattle.mem_port.proofs.PortLaws.{cases_port}

-- What a new cell and new items need, so that the law is kept: no request waits.
record IsCellChange (image : ImageValue) (p : Port) (state : PortState) (old new : List Item) : Type 0 where
  legal : IsLegal (start_memory image) new
  no_bus : transactions new ≡ []
  others : (core : ℕ) → Access core ≢ p → own_items new core ≡ own_items old core
  proper : HoldsProper image p state
  code : (core : ℕ) → Fetch core ≡ p → HoldsCode image state
  entry : (core : ℕ) → Access core ≡ p → HoldsEntry core (own_items new core) state
  rests : IsWaiting state → ⊥

-- The law after a change of one cell, and maybe of the items.
lawful-after : (image : ImageValue) (cores : ℕ) (cells : List Cell) (p : Port) (index : ℕ) (cell : Cell) (old new : List Item)
    → index ≡ index_of p → index < length cells → core_of p < cores →
    IsLawful (flat image cores old cells) → IsCellChange image p cell.state old new
    → IsLawful (flat image cores new (slice_set cells index cell))
lawful-after image cores cells p index cell old new at within below law change =
    change-lawful p cell.state (flat image cores old cells) (flat image cores new (slice_set cells index cell)) law (record {
      kept = record { image = refl; cores = refl; caches = refl; tells_distances = refl; bound = refl; tells_load = refl };
      below = below;
      is = ap (λ (c : Cell). c.state) (cell-same cells p index cell at within);
      ports = λ q ne. ap (λ (c : Cell). c.state) (cell-other cells p index cell at within q ne);
      legal = change.legal;
      follows = change.no_bus;
      lines = rw change.no_bus tt;
      others = change.others;
      proper = change.proper;
      code = change.code;
      entry = change.entry;
      waiting = λ q w. absurd (rests q w);
      near = λ t q w. absurd (rests q w);
      unloaded = λ t free. refl;
    })
  where
    rests : (q : Port) → IsWaiting (cell_at (slice_set cells index cell) q).state → ⊥
    rests q w =
        elim (cases_port p q) as (λ _. ⊥) [
          | inl e ↦ (let W : Port → Type 0 = λ r. IsWaiting (cell_at (slice_set cells index cell) r).state
              in change.rests (subst (λ (c : Cell). IsWaiting c.state) (cell-same cells p index cell at within) (subst W e w)))
          | inr ne ↦ (let b = law.waiting q (subst (λ (c : Cell). IsWaiting c.state) (cell-other cells p index cell at within q ne) w)
              in cc)
        ]

-- A call that makes no entry, and leaves its port free, asked or closed.
pub quiet-lawful : (image : ImageValue) (cores : ℕ) (cells : List Cell) (p : Port) (index : ℕ) (cell : Cell) (items : List Item)
    → index ≡ index_of p → index < length cells → core_of p < cores →
    IsLawful (flat image cores items cells) → HoldsProper image p cell.state → HoldsCode image cell.state
    → ((core : ℕ) → HoldsEntry core (own_items items core) cell.state) → (IsWaiting cell.state → ⊥)
    → IsLawful (flat image cores items (slice_set cells index cell))
quiet-lawful image cores cells p index cell items at within below law proper code entry rests =
    lawful-after image cores cells p index cell items items at within below law (record {
      legal = law.legal;
      no_bus = law.follows;
      others = λ core ne. refl;
      proper = proper;
      code = λ core e. code;
      entry = λ core e. entry core;
      rests = rests;
    })

asked-may : (image : ImageValue) (cores : ℕ) (cells : List Cell) (p : Port) (index : ℕ) (cell : Cell) (r : Request) (items : List Item)
    → index ≡ index_of p → index < length cells → IsLawful (flat image cores items cells) → cell ≡ get_or cells index cell
    → cell.state ≡ Asked r → MayAsk image p r
asked-may image cores cells p index cell r items at within law read asked =
    let S : PortState → Type 0 = λ s. HoldsProper image p s in
    let here : cell_at cells p ≡ cell = ap (λ i. get_or cells i no_cell) (sym at)
    ∙ (get_or_default cells index no_cell cell within ∙ sym read) in
    subst S (ap (λ (c : Cell). c.state) here ∙ asked) (law.proper p)

-- A request that was asked is answered with the word that is there.
pub served-lawful : (image : ImageValue) (cores : ℕ) (cells : List Cell) (p : Port) (index : ℕ) (cell : Cell) (r : Request) (word : ℕ)
    (items : List Item) → index ≡ index_of p → index < length cells → core_of p < cores →
    IsLawful (flat image cores items cells) → cell ≡ get_or cells index cell → cell.state ≡ Asked r
    → IsFound image (after_items (start_memory image) items) p r word →
    IsLawful (flat image cores (items ++ items_of p r word) (slice_set cells index (record { state = Answered r word; asks = cell.asks })))
served-lawful image cores cells p index cell r word items at within below law read asked found =
    lawful-after image cores cells p index (record { state = Answered r word; asks = cell.asks }) items (items ++ items_of p r word) at
    within below law (record {
      legal = answer-legal image items p r word found law.legal;
      no_bus = transactions-append items (items_of p r word) ∙ (rw (law.follows, answer-no_bus p r word) refl);
      others = λ core ne. answer-other items p r word core ne;
      proper = asked-may image cores cells p index cell r items at within law read asked;
      code = λ core e. answer-code image (after_items (start_memory image) items) p r word core found e;
      entry = λ core e. (let P : Port
          → Type 0 = λ q. HoldsEntry core (own_items (items ++ items_of q r word) core) (Answered r word)
          in subst P e (entry-last items core r word));
      rests = λ w. w;
    })

-- Memory is what the items leave, those that were added too.
pub words-after : (memory words now : List ℕ) (old more new : List Item) → words ≡ after_items memory old → now ≡ after_items words more
    → new ≡ old ++ more → now ≡ after_items memory new
words-after memory words now old more new h e f = e
    ∙ (ap (λ m. after_items m more) h ∙ (sym (after_items-append memory old more) ∙ ap (after_items memory) (sym f)))

-- A cell that is served makes at most one item.
pub room-after : (cells : List Cell) (index : ℕ) (cell : Cell) (r : Request) (word spare left : ℕ) → index < length cells
    → cell ≡ get_or cells index cell → cell.state ≡ Asked r → sum_by weight cells ≤ spare → spare ≤ left + 1 →
    sum_by weight (slice_set cells index (record { state = Answered r word; asks = cell.asks })) ≤ left
room-after cells index cell r word spare left within read asked h k =
    let s = sum_by-set weight cells index (record { state = Answered r word; asks = cell.asks }) cell within in
    let a : weight (get_or cells index cell) ≡ weight cell = ap weight (sym read) in
    let b : pending cell.state ≡ 1 = ap pending asked in
    omega (arith, s, a, b)

-- Before the first call.

-- With no items and free cells the law holds.
free-lawful : (image : ImageValue) (cores : ℕ) (cells : List Cell) → IsGood image → ((port : Port) → (cell_at cells port).state ≡ Free)
    → IsLawful (flat image cores [] cells)
free-lawful image cores cells good free = record {
  good = good;
  legal = tt;
  follows = refl;
  lines = tt;
  within = λ core le. refl;
  proper = λ q. (let S : PortState → Type 0 = λ s. HoldsProper image q s in subst S (sym (free q)) tt);
  fetched = λ core. (let S : PortState → Type 0 = λ s. HoldsCode image s in subst S (sym (free (Fetch core))) tt);
  served = λ core. (let S : PortState → Type 0 = λ s. HoldsEntry core [] s in subst S (sym (free (Access core))) tt);
  waiting = λ q w. absurd (rests q w);
  near = λ t q w. absurd (rests q w);
  unloaded = λ t f. refl;
}
  where
    rests : (q : Port) → IsWaiting (cell_at cells q).state → ⊥
    rests q w = let P : PortState → Type 0 = λ s. IsWaiting s in subst P (free q) w

pub fresh-flat : (image : ImageValue) (cores asks : ℕ) (items : List Item) (cells : List Cell) → IsGood image
    → items ≡ [] → cells ≡ replicate (2 * cores) (record { state = Free; asks = asks }) →
    IsFresh image cores asks None (flat image cores items cells)
fresh-flat image cores asks items cells good none all =
    rw (none, all) (record {
      lawful = free-lawful image cores (replicate (2 * cores) (record { state = Free; asks = asks })) good
          (λ p. free-all (2 * cores) (index_of p) asks);
      image_is = refl;
      cores_are = refl;
      caches_are = refl;
      history = refl;
      ports = λ p. free-all (2 * cores) (index_of p) asks;
      asks_left = λ p lt. ap (λ (c : Cell). c.asks)
          (get_or-replicate (2 * cores) (index_of p) (record { state = Free; asks = asks }) no_cell (index_of-below p cores lt));
      idle = refl;
    })
