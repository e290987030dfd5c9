-- What an engine tells of its times, as its contracts see it.
use Rattle.std.proofs.Common.{◌≡◌, ℕ, ◌+◌, Bool, true, false, refl, ap, sym, ◌∙◌, subst, IsSome}
use Rattle.std.specs.Prelude.{Option, Some, None}
use Rattle.mips_isa.specs.declared.Stop.{Stop}
use Rattle.image_file.specs.Value.{ImageValue}
use Rattle.mem_port.specs.Engine.{FetchFits, ReplyFits}
use Rattle.mem_port.specs.ServiceHistory.{ServiceHistory, AfterClock, AfterDrain}
use Rattle.pipe_core.specs.declared.flight.Flight.{Flight}
use Rattle.pipe_core.specs.Clock.{clocked, drained}
use Rattle.pipe_core.specs.PipeHistory.{IsUnderWay, HasStopped, IsDrained, told_by, pipe_timed}
use Rattle.pipe_core.specs.PipeView.{PipeValue, IsPipe, pipe_view, pipe_of}
use Rattle.pipe_core.specs.Table.{TableValue, table_after}
use Rattle.pipe_core.specs.Wants.{stop_in, access_in, fetch_in}
use Rattle.pipe_core.proofs.DrainLemmas.{under-drain}
use Rattle.pipe_core.proofs.HistoryLemmas.{under-clock, under-stop}

-- What is told, by whether it is live and how it ended.
under-told : (b : ServiceHistory) (v : PipeValue) → v.live ≡ true → IsUnderWay b v → pipe_timed b v
under-told b v l h = (let Q : Bool → Type 0 = λ x. told_by x b.is_drained b v in subst Q (sym l) h)

stop-told : (b : ServiceHistory) (v : PipeValue) → b.is_drained ≡ false → v.live ≡ false → HasStopped b v → pipe_timed b v
stop-told b v d l h =
    let Q : Bool → Type 0 = λ x. told_by x b.is_drained b v in
    let R : Bool → Type 0 = λ x. told_by false x b v in
    subst Q (sym l) (subst R (sym d) h)

drained-told : (b : ServiceHistory) (v : PipeValue) → b.is_drained ≡ true → v.live ≡ false → IsDrained b v → pipe_timed b v
drained-told b v d l h =
    let Q : Bool → Type 0 = λ x. told_by x b.is_drained b v in
    let R : Bool → Type 0 = λ x. told_by false x b v in
    subst Q (sym l) (subst R (sym d) h)

module _ (p : ImageValue) (c n budget clocks : ℕ) (live : Bool) (f g : Flight) (u w : TableValue) (old : PipeValue)
    (is : pipe_of p c n budget clocks live f u ≡ old) (i : IsPipe (pipe_of p c n budget clocks live f u)) (fetched reply : Option ℕ)
    (lives : (pipe_view old).is_live ≡ true) where
  live-here : live ≡ true
  live-here = (let P : PipeValue → Type 0 = λ o. (pipe_view o).is_live ≡ true in subst P (sym is) lives)

  -- A live engine.
  told-under : (a : ServiceHistory) → pipe_timed a old → IsUnderWay a (pipe_of p c n budget clocks true f u)
  told-under a h =
      let P : PipeValue → Type 0 = λ o. pipe_timed a o in
      let Q : Bool → Type 0 = λ l. told_by l a.is_drained a (pipe_of p c n budget clocks l f u) in
      subst Q live-here (subst P (sym is) h)

  module _ (ff : FetchFits (pipe_view old).image (pipe_view old).fetch fetched) (rf : ReplyFits (pipe_view old).access reply)
      (a b : ServiceHistory)
      (told : pipe_timed a old) (after : AfterClock fetched reply (pipe_view old) a b) where
    ff-told : FetchFits p (fetch_in p f) fetched
    ff-told = (let P : PipeValue → Type 0 = λ o. FetchFits (pipe_view o).image (pipe_view o).fetch fetched in subst P (sym is) ff)

    rf-told : ReplyFits (access_in p f.executed f.stages.mem) reply
    rf-told = (let P : PipeValue → Type 0 = λ o. ReplyFits (pipe_view o).access reply in subst P (sym is) rf)

    after-told : AfterClock fetched reply (pipe_view (pipe_of p c n budget clocks true f u)) a b
    after-told =
        let P : PipeValue → Type 0 = λ o. AfterClock fetched reply (pipe_view o) a b in
        let Q : Bool → Type 0 = λ l. AfterClock fetched reply (pipe_view (pipe_of p c n budget clocks l f u)) a b in
        subst Q live-here (subst P (sym is) after)

    pub clock-told : None ≡ stop_in p f.stages.mem → g ≡ clocked p fetched reply (clocks + 1) f
        → w ≡ table_after None p reply (clocks + 1) f u
        → pipe_timed b (pipe_of p c n budget (clocks + 1) live g w)
    clock-told no_stop e tab =
        let h = under-clock p c n budget clocks f u i.good i.chained i.fit fetched reply ff-told rf-told a b (told-under a told)
        after-told no_stop in
        let P : Flight → Type 0 = λ x. IsUnderWay b
        (pipe_of p c n budget (clocks + 1) true x (table_after None p reply (clocks + 1) f u)) in
        let Q : TableValue → Type 0 = λ x. IsUnderWay b (pipe_of p c n budget (clocks + 1) true g x) in
        let L : Bool → Type 0 = λ l. pipe_timed b (pipe_of p c n budget (clocks + 1) l g w) in
        subst L (sym live-here) (under-told b (pipe_of p c n budget (clocks + 1) true g w) refl (subst Q (sym tab) (subst P (sym e) h)))

    pub stop-tells : (why : Stop) → Some why ≡ stop_in p f.stages.mem → g ≡ f → w ≡ table_after (Some why) p reply (clocks + 1) f u
        → pipe_timed b (pipe_of p c n budget (clocks + 1) false g w)
    stop-tells why stop e tab =
        let under = told-under a told in
        let h = under-stop p c n budget clocks f u i.good i.chained i.fit fetched reply ff-told rf-told a b under after-told why stop in
        let P : Flight → Type 0 = λ x. HasStopped b
        (pipe_of p c n budget (clocks + 1) false x (table_after (Some why) p reply (clocks + 1) f u)) in
        let Q : TableValue → Type 0 = λ x. HasStopped b (pipe_of p c n budget (clocks + 1) false g x) in
        let drained : b.is_drained ≡ false = after-told.drained ∙ under.drained in
        stop-told b (pipe_of p c n budget (clocks + 1) false g w) drained refl (subst Q (sym tab) (subst P (sym e) h))

  pub drain-told : IsSome (pipe_view old).access → (a b : ServiceHistory) → pipe_timed a old → AfterDrain reply (pipe_view old) a b
      → g ≡ drained p reply f → w ≡ table_after None p reply (clocks + 1) f u → pipe_timed b (pipe_of p c n budget clocks false g w)
  drain-told wants a b told drains e tab =
      let W : PipeValue → Type 0 = λ o. IsSome (pipe_view o).access in
      let wanted : IsSome (access_in p f.executed f.stages.mem) = subst W (sym is) wants in
      let D : PipeValue → Type 0 = λ o. AfterDrain reply (pipe_view o) a b in
      let after : AfterDrain reply (pipe_view (pipe_of p c n budget clocks live f u)) a b = subst D (sym is) drains in
      let L : Bool → Type 0 = λ l. AfterDrain reply (pipe_view (pipe_of p c n budget clocks l f u)) a b in
      let h = under-drain p c n budget clocks f u i.chained reply a b (told-under a told) (subst L live-here after) wanted in
      let P : Flight → Type 0 = λ x. IsDrained b (pipe_of p c n budget clocks false x (table_after None p reply (clocks + 1) f u)) in
      let Q : TableValue → Type 0 = λ x. IsDrained b (pipe_of p c n budget clocks false g x) in
      drained-told b (pipe_of p c n budget clocks false g w) (drained-so reply after) refl (subst Q (sym tab) (subst P (sym e) h)) where
        drained-so : (came : Option ℕ) → AfterDrain came (pipe_view (pipe_of p c n budget clocks live f u)) a b → b.is_drained ≡ true
        drained-so came h = ap (λ (x : ServiceHistory). x.is_drained) h
