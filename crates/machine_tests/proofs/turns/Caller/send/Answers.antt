use Rattle.std.proofs.Common.{◌-◌, arith}
use Rattle.access_log.specs.declared.request.Request.{Request}
use Rattle.mem_port.specs.declared.port.PortState.TheVariants.{Asked}
use Rattle.machine_tests.proofs.TurnLaws.{knows-asks, knows-serves}
use Rattle.machine_tests.proofs.turns.Caller.send.Goals as goal

pub returns : goal.returns
returns g c =
    let turn = c.args.turn.now in let made = c.args.self.now.made in let left = c.args.self.now.left in
    let answers = c.args.self.now.answers in
    let r : Request = record { nth = c.args.nth; kind = c.args.kind; addr = 256; expected = 0; value = c.args.value } in
    let asked = knows-asks turn made left answers c.args.self.now.pass c.ask.new.pass c.requires.knows c.core.result r c.ask.ensures.made
    c.ask.ensures.asks (omega arith) in
    record {
      knows = knows-serves turn (Asked r) (left - 1) answers c.ask.new.pass c.serve.new.pass asked c.core.result r c.serve.ensures.made
          (c.serve.ensures.serves r c.ask.ensures.asks.port);
    }
