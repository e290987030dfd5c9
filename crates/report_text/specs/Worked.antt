-- What is counted of a worked history.
use Rattle.std.specs.Prelude.{◌≡◌, true, false, List, [], ◌∷◌, None, Some}
use Rattle.mips_isa.specs.declared.Kind.TheVariants.{Sw}
use Rattle.access_log.specs.declared.Item.{Item}
use Rattle.access_log.specs.declared.Letter.TheVariants.{M, E, S}
use Rattle.letters.specs.Caches.{moesi, all_with}
use Rattle.letters.specs.Histories.{access, transaction}
use Rattle.report_text.specs.Counts.{bus_counts_of}

-- Two cores, whose data caches are 1 and 3, share lines in caches of one line.
abbrev worked : List Item
worked =
    transaction 1 4 true 0 None None M
    ∷ access 0 0 Sw 32 0 (Some 7)
    -- the other reads what the first stored, and then stores too: an upgrade from S
    ∷ transaction 3 4 false 2 (Some 1) None S
    ∷ transaction 3 4 true 2 (Some 1) None M
    -- a victim in M
    ∷ transaction 3 5 false 0 None (Some 4) E
    -- a victim that was E until it was stored to
    ∷ transaction 1 4 false 0 None None E
    ∷ access 0 1 Sw 36 0 (Some 8)
    ∷ transaction 1 5 false 8 None (Some 4) S
    -- upgrades from S and from O
    ∷ transaction 1 5 true 8 None None M
    ∷ transaction 3 5 false 2 (Some 1) None S
    ∷ transaction 1 5 true 8 None None M
    -- victims in O, in S and in E
    ∷ transaction 3 5 false 2 (Some 1) None S
    ∷ transaction 1 6 false 0 None (Some 5) E
    ∷ transaction 3 7 true 0 None (Some 5) M
    ∷ transaction 1 9 false 0 None (Some 6) E
    -- two more in M, of which the second was filled so, and one in E between
    ∷ transaction 3 11 false 0 None (Some 7) E
    ∷ transaction 3 12 true 0 None (Some 11) M
    ∷ transaction 3 13 false 0 None (Some 12) E
    ∷ []

-- 16 transactions: 6 exclusive, 4 owned, 3 upgrades and 5 flushes. Where there is no bus, nothing is counted.
abbrev pub WorkedCounts : Type 0
WorkedCounts = (bus_counts_of (Some (all_with moesi 1 1)) worked ≡ 16 ∷ 6 ∷ 4 ∷ 3 ∷ 5 ∷ [])
    × (bus_counts_of None worked ≡ 0 ∷ 0 ∷ 0 ∷ 0 ∷ 0 ∷ [])
