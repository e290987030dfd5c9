-- A memory that answers each request as it is served, as contracts see it.
use Rattle.std.specs.Prelude.{◌≡◌, ℕ, ◌+◌, ◌*◌, ◌/◌, true, false, None, List, get_or, slice_index}
use Rattle.image_file.specs.Value.{ImageValue}
use Rattle.access_log.specs.declared.request.Request.{Request}
use Rattle.access_log.specs.Requests.{old_at}
use Rattle.access_log.specs.declared.Item.{Item}
use Rattle.mem_port.specs.declared.port.Port.{Port}
use Rattle.mem_port.specs.declared.port.Port.TheVariants.{Fetch, Access}
use Rattle.mem_port.specs.declared.port.PortState.{PortState}
use Rattle.mem_port.specs.declared.port.PortState.TheVariants.{Free, Asked, Waiting, Answered, Closed}
use Rattle.mem_port.specs.declared.cell.Cell.{Cell}
use Rattle.mem_port.specs.Memory.{MemoryView}

-- The index of a port's cell.
abbrev pub index_of : Port → ℕ
index_of (Fetch core) = 2 * core
index_of (Access core) = 2 * core + 1

-- What stands for the cell of a core that isn't there.
abbrev pub no_cell : Cell
no_cell = record { state = Free; asks = 0 }

abbrev pub cell_at : List Cell → Port → Cell
cell_at cells port = get_or cells (index_of port) no_cell

-- No step moves anything, and no request waits.
abbrev pub flat : ImageValue → ℕ → List Item → List Cell → MemoryView
flat image cores items cells = record {
  image = image;
  cores = cores;
  caches = None;
  history = items;
  port = λ port. (cell_at cells port).state;
  asks_left = λ port. (cell_at cells port).asks;
  is_busy = false;
  tells_distances = true;
  distance = λ port. 0;
  bound = 0;
  tells_load = true;
  load = 0;
}

-- The word that is there for a request: that of the code for a fetch, and that of memory for an access.
abbrev pub IsFound : ImageValue → List ℕ → Port → Request → ℕ → Type 0
IsFound image words (Fetch core) r word = word ≡ slice_index image.code (r.addr / 4)
IsFound image words (Access core) r word = word ≡ old_at words r

-- How many requests of a cell are asked and not served.
abbrev pub pending : PortState → ℕ
pending Free = 0
pending (Asked r) = 1
pending (Waiting r) = 0
pending (Answered r word) = 0
pending Closed = 0

-- How many entries a cell may still make.
abbrev pub weight : Cell → ℕ
weight cell = cell.asks + pending cell.state
