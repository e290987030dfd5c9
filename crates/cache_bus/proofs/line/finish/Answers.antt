use Rattle.std.proofs.Common.{rules, ◌≡◌, false}
use Rattle.std.specs.Prelude.{None}
use Rattle.moesi_master.specs.Moesi.{is_held}
use Rattle.cache_ram.specs.Lines.{letter_in}
use Rattle.cache_bus.proofs.LineLaws.{filled-none}
use Rattle.cache_bus.proofs.line.finish.Goals as goal

pub returns-in_default : goal.returns-in_default
returns-in_default c =
    let none : c.args.victim ≡ None = search rules in
    let miss : is_held (letter_in c.args.cache.now c.args.line) ≡ false = search rules in
    record {
      installed = filled-none c.args.line c.args.victim c.args.letter c.args.words _ _ none miss c.fill.ensures.same c.fill.ensures.other
          c.fill.ensures.words_here c.fill.ensures.words c.fill.ensures.filled c.fill.ensures.filled_else c.fill.ensures.sets;
    }
