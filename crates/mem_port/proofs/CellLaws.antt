-- The cells of ports, a list with an index for each: what a change of one leaves of all.
use Rattle.std.proofs.Common.{◌≡◌, ◌≢◌, ℕ, zero, suc, ◌*◌, ◌<◌, List, length, get_or, refl, ap, ◌∙◌, arith, get_or-set_same, get_or-set_other}
use Rattle.std.specs.Prelude.{slice_set, replicate}
use Rattle.mem_port.specs.declared.port.Port.{Port}
use Rattle.mem_port.specs.declared.port.Port.TheVariants.{Fetch, Access}
use Rattle.mem_port.specs.declared.port.PortState.TheVariants.{Free}
use Rattle.mem_port.specs.declared.cell.Cell.{Cell}
use Rattle.mem_port.specs.Ports.{core_of}
use Rattle.mem_port.specs.Flat.{index_of, no_cell, cell_at}

-- Each port has an index of its own.
pub index_of-other : (p q : Port) → q ≢ p → index_of q ≢ index_of p
index_of-other (Fetch c) (Fetch k) ne e = let f : k ≡ c = omega arith in ne (ap Fetch f)
index_of-other (Fetch c) (Access k) ne e = omega arith
index_of-other (Access c) (Fetch k) ne e = omega arith
index_of-other (Access c) (Access k) ne e = let f : k ≡ c = omega arith in ne (ap Access f)

-- What a port has after a change of one cell: of its own, or of another.
module _ (cells : List Cell) (p : Port) (index : ℕ) (cell : Cell) (at : index ≡ index_of p) (within : index < length cells) where
  pub cell-same : cell_at (slice_set cells index cell) p ≡ cell
  cell-same = rw (← at) (get_or-set_same cells index cell no_cell within)

  pub cell-other : (q : Port) → q ≢ p → cell_at (slice_set cells index cell) q ≡ cell_at cells q
  cell-other q ne = get_or-set_other cells index (index_of q) cell no_cell (λ e. index_of-other p q ne (e ∙ at))

-- Before the first call: so many free cells.
pub free-all : (n index asks : ℕ) → (get_or (replicate n (record { state = Free; asks = asks })) index no_cell).state ≡ Free
free-all zero index asks = refl
free-all (suc n) zero asks = refl
free-all (suc n) (suc index) asks = free-all n index asks

pub index_of-below : (p : Port) (n : ℕ) → core_of p < n → index_of p < 2 * n
index_of-below (Fetch core) n h = omega arith
index_of-below (Access core) n h = omega arith
