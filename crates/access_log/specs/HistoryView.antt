-- A history as contracts see it: its items, the oldest first, and the number that it has room for beside them.
use Rattle.std.specs.Prelude.{◌≡◌, ℕ, ◌<◌, Option, Some, List, length, slice_get}
use Rattle.std.specs.List.{AllByRecursion}
use Rattle.access_log.specs.declared.Item.{Item}
use Rattle.access_log.specs.Indices.{last_below, before, IsOfCore}

pub record HistoryValue : Type 0 where
  pub items : List Item
  pub spare : ℕ

-- The links lead from each index to the one before it, and the last indices are those of all items.
pub record IsLinked (items : List Item) (links last : List (Option ℕ)) : Type 0 where
  pub links_count : length links ≡ length items
  pub links_lead : (index : ℕ) → index < length items → slice_get links index ≡ Some (before items index)
  pub last_count : length last ≡ 8
  pub last_are : (core : ℕ) → core < 8 → slice_get last core ≡ Some (last_below items (length items) core)
  pub cores : AllByRecursion IsOfCore items
