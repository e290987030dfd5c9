use Rattle.std.proofs.Common.{rules, ◌+◌, ◌*◌, ◌<◌, arith, length}
use Rattle.cache_bus.proofs.InsideLaws.{main-size}
use Rattle.cache_bus.proofs.cache_bus.CacheBus.in_memory.Goals as goal

pub line_at-requires : goal.line_at-requires
line_at-requires c =
    let size = main-size _ c.self.invariant in
    let inside : c.args.line < c.self.inside.image.now.memory_lines = search rules in
    let lt : 2 * c.args.line + 1 < length c.self.inside.main.items = omega (arith, size, inside) in
    search rules
