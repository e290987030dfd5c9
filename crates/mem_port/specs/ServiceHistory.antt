-- How an engine is served: what came for it so far, and how long its wants may go on unmet.
use Rattle.std.specs.Prelude.{◌≡◌, ℕ, ◌+◌, ◌*◌, ◌<◌, ◌≤◌, Bool, true, false, ◌||◌, is_some, Option, Some, None, List, [], ◌∷◌, ◌++◌, length}
use Rattle.access_log.specs.declared.request.Request.{Request}
use Rattle.access_log.specs.declared.Entry.{Entry}
use Rattle.access_log.specs.Requests.{entry_of}
use Rattle.access_log.specs.Stamps.{Stamp, stamped}
use Rattle.mem_port.specs.Engine.{EngineView}

-- The clocks that were made, those of them in which a want stayed unmet, the words of code that came, and the accesses that
-- were executed, each with the clock in which its answer was given.
pub record Service : Type 0 where
  pub clocks : ℕ
  pub unmet : ℕ
  pub words : ℕ
  pub accesses : List Stamp

-- Before the first clock.
abbrev pub no_service : Service
no_service = record { clocks = 0; unmet = 0; words = 0; accesses = [] }

-- Something is wanted, and doesn't come.
abbrev pub is_unmet : {W : Type 0} → Option W → Option ℕ → Bool
is_unmet (Some want) None = true
is_unmet want given = false

abbrev pub one_if : Bool → ℕ
one_if true = 1
one_if false = 0

-- The access that an answer executes.
abbrev pub executed_by : ℕ → Option Request → Option ℕ → List Entry
executed_by core (Some r) (Some word) = entry_of core r word ∷ []
executed_by core want given = []

-- Accesses, and those of this clock.
abbrev pub with_clock : List Stamp → EngineView → Option ℕ → ℕ → List Stamp
with_clock accesses e reply clock = accesses ++ stamped clock (executed_by e.core e.access reply)

-- After a clock with what came for it.
abbrev pub after_clock : Option ℕ → Option ℕ → EngineView → Service → Service
after_clock fetched reply e s = record {
  clocks = s.clocks + 1;
  unmet = s.unmet + one_if (is_unmet e.fetch fetched || is_unmet e.access reply);
  words = s.words + one_if (is_some fetched);
  accesses = with_clock s.accesses e reply (s.clocks + 1);
}

-- After the end of a budget, which is no clock: an answer that was found then counts as one in the clock that would come next.
abbrev pub after_drain : Option ℕ → EngineView → Service → Service
after_drain None e s = s
after_drain (Some word) e s = record s { accesses = with_clock s.accesses e (Some word) (s.clocks + 1) }

-- An engine uses what it gets: at most six clocks for each instruction and one more, but for those in which a want stayed
-- unmet; five words of code more than instructions; and an access is an instruction.
pub record UsesService (s : Service) (executed : ℕ) : Type 0 where
  pub clocks : s.clocks < 6 * (executed + 1) + s.unmet
  pub words : s.words ≤ executed + 5
  pub accesses : length s.accesses ≤ executed

-- What came so far; by how many clocks at most an answer comes later than it could have, where that is told; how many clocks
-- more each of the two wants may stay unmet; and whether the budget ended while an access was wanted.
pub record ServiceHistory : Type 0 where
  pub service : Service
  pub bound : Option ℕ
  pub fetch_left : ℕ
  pub access_left : ℕ
  pub is_drained : Bool

-- A want that isn't met has one clock less; another one has the bound. Without a bound nothing is told.
abbrev pub IsLeft : {W : Type 0} → Option ℕ → Option W → Option ℕ → ℕ → ℕ → Type 0
IsLeft None want given old new = Unit {0}
IsLeft (Some bound) (Some want) None old new = new + 1 ≤ old
IsLeft (Some bound) want given old new = new ≤ bound

-- The history after a clock.
pub record AfterClock (fetched reply : Option ℕ) (e : EngineView) (old new : ServiceHistory) : Type 0 where
  pub service : new.service ≡ after_clock fetched reply e old.service
  pub bound : new.bound ≡ old.bound
  pub fetch : IsLeft old.bound e.fetch fetched old.fetch_left new.fetch_left
  pub access : IsLeft old.bound e.access reply old.access_left new.access_left
  pub drained : new.is_drained ≡ old.is_drained

-- The history after the end of a budget.
abbrev pub AfterDrain : Option ℕ → EngineView → ServiceHistory → ServiceHistory → Type 0
AfterDrain reply e old new = new ≡ record old { service = after_drain reply e old.service; is_drained = true }

-- A history before the first clock: whatever the bound is, each want may stay unmet for so long.
pub record IsFirstHistory (history : ServiceHistory) : Type 0 where
  pub service : history.service ≡ no_service
  pub fetch : IsLeft {W = ℕ} history.bound None None 0 history.fetch_left
  pub access : IsLeft {W = ℕ} history.bound None None 0 history.access_left
  pub drained : history.is_drained ≡ false
