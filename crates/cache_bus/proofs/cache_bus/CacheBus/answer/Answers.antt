use Rattle.std.proofs.Common.{rules, ◌≡◌, ◌≢◌, ◌+◌, ◌*◌, ◌/◌, ◌<◌, true, ap, ◌∙◌, arith}
use Rattle.moesi_master.specs.Moesi.{is_held}
use Rattle.moesi_master.specs.Phases.{is_on}
use Rattle.mem_port.specs.Flat.{index_of}
use Rattle.mem_port.specs.Loaded.{on_code, IsProperAccess}
use Rattle.cache_bus.specs.Caches.{letters_in}
use Rattle.cache_bus.specs.View.{serves_now}
use Rattle.cache_bus.specs.Inside.{Inside, shown}
use Rattle.cache_bus.proofs.AnswerLaws.{served-shown, serves-held, code-word, answer-word, answer-holds, answer-follows}
use Rattle.cache_bus.proofs.cache_bus.CacheBus.answer.Goals as goal

pub read-requires-clause-held : goal.read-requires-clause-held
read-requires-clause-held c =
    let s : Inside = (record {
      image = c.self.inside.image.now;
      cores = c.self.inside.cores;
      sets = c.self.inside.sets;
      caches = c.self.inside.caches.items;
      main = c.self.inside.main.items;
      bus = c.self.inside.bus;
      slaves = c.self.inside.slaves.items;
      items = c.self.inside.history.items;
    }) in
    let served : serves_now (shown s c.self.inside.history.spare) (2 * c.in-Fetch.core) c.args.request.now ≡ true =
    served-shown _ _ _ _ c.args.request.now true c.self.view_is (ap index_of c.in-Fetch.is) c.requires.hit in
    let line : c.args.request.now.addr / 4 / 2 ≡ c.args.request.now.addr / 8 = omega arith in
    ap (λ z. is_held (letters_in c.self.inside.caches.items (2 * c.in-Fetch.core) z)) line
    ∙ serves-held s c.self.invariant (2 * c.in-Fetch.core) c.self.inside.history.spare c.args.request.now served

pub perform-requires-clause-held : goal.perform-requires-clause-held
perform-requires-clause-held c =
    let s : Inside = (record {
      image = c.self.inside.image.now;
      cores = c.self.inside.cores;
      sets = c.self.inside.sets;
      caches = c.self.inside.caches.items;
      main = c.self.inside.main.items;
      bus = c.self.inside.bus;
      slaves = c.self.inside.slaves.items;
      items = c.self.inside.history.items;
    }) in
    let served : serves_now (shown s c.self.inside.history.spare) (2 * c.in-Access.core + 1) c.args.request.now ≡ true =
    served-shown _ _ _ _ c.args.request.now true c.self.view_is (ap index_of c.in-Access.is) c.requires.hit in
    serves-held s c.self.invariant (2 * c.in-Access.core + 1) c.self.inside.history.spare c.args.request.now served

pub invariant_of-self : goal.invariant_of-self
invariant_of-self c =
    let s : Inside = (record {
      image = c.self.inside.image.now;
      cores = c.self.inside.cores;
      sets = c.self.inside.sets;
      caches = c.self.inside.caches.items;
      main = c.self.inside.main.items;
      bus = c.self.inside.bus;
      slaves = c.self.inside.slaves.items;
      items = c.self.inside.history.items;
    }) in
    let served : serves_now (shown s c.self.inside.history.spare) (2 * c.in-Access.core + 1) c.args.request.now ≡ true =
    served-shown _ _ _ _ c.args.request.now true c.self.view_is (ap index_of c.in-Access.is) c.requires.hit in
    let below : c.in-Access.core < c.self.inside.cores = search rules in
    let proper : IsProperAccess c.self.inside.image.now c.args.request.now.kind c.args.request.now.addr = search rules in
    let other : is_on c.self.inside.bus.phase ≡ true → 2 * c.in-Access.core + 1 ≢ c.self.inside.bus.master = search rules in
    rw c.perform.ensures.items (answer-holds s c.self.invariant c.perform.new.caches.items c.in-Access.core c.args.request.now
    c.perform.result c.self.inside.history.spare below proper served other c.perform.ensures.touched
    c.perform.ensures.others c.perform.ensures.len)

pub returns-in-Fetch-clause-word : goal.returns-in-Fetch-clause-word
returns-in-Fetch-clause-word c =
    let s : Inside = (record {
      image = c.self.inside.image.now;
      cores = c.self.inside.cores;
      sets = c.self.inside.sets;
      caches = c.self.inside.caches.items;
      main = c.self.inside.main.items;
      bus = c.self.inside.bus;
      slaves = c.self.inside.slaves.items;
      items = c.self.inside.history.items;
    }) in
    let served : serves_now (shown s c.self.inside.history.spare) (2 * c.in-Fetch.core) c.args.request.now ≡ true =
    served-shown _ _ _ _ c.args.request.now true c.self.view_is (ap index_of c.in-Fetch.is) c.requires.hit in
    let on : on_code c.self.inside.image.now c.args.request.now.addr ≡ true = search rules in
    let e = c.read.ensures.word ∙ code-word s c.self.invariant (2 * c.in-Fetch.core) c.args.request.now on
    (serves-held s c.self.invariant (2 * c.in-Fetch.core) c.self.inside.history.spare c.args.request.now served) in
    search rules

pub returns-in-Access-clause-word : goal.returns-in-Access-clause-word
returns-in-Access-clause-word c =
    let s : Inside = (record {
      image = c.self.inside.image.now;
      cores = c.self.inside.cores;
      sets = c.self.inside.sets;
      caches = c.self.inside.caches.items;
      main = c.self.inside.main.items;
      bus = c.self.inside.bus;
      slaves = c.self.inside.slaves.items;
      items = c.self.inside.history.items;
    }) in
    let served : serves_now (shown s c.self.inside.history.spare) (2 * c.in-Access.core + 1) c.args.request.now ≡ true =
    served-shown _ _ _ _ c.args.request.now true c.self.view_is (ap index_of c.in-Access.is) c.requires.hit in
    let e = answer-word s c.self.invariant (2 * c.in-Access.core + 1) c.args.request.now c.perform.result
    (serves-held s c.self.invariant
    (2 * c.in-Access.core + 1) c.self.inside.history.spare c.args.request.now served) c.perform.ensures.old in
    search rules

pub returns-in-Access-clause-follows : goal.returns-in-Access-clause-follows
returns-in-Access-clause-follows c =
    let s : Inside = (record {
      image = c.self.inside.image.now;
      cores = c.self.inside.cores;
      sets = c.self.inside.sets;
      caches = c.self.inside.caches.items;
      main = c.self.inside.main.items;
      bus = c.self.inside.bus;
      slaves = c.self.inside.slaves.items;
      items = c.self.inside.history.items;
    }) in
    let served : serves_now (shown s c.self.inside.history.spare) (2 * c.in-Access.core + 1) c.args.request.now ≡ true =
    served-shown _ _ _ _ c.args.request.now true c.self.view_is (ap index_of c.in-Access.is) c.requires.hit in
    let below : c.in-Access.core < c.self.inside.cores = search rules in
    let proper : IsProperAccess c.self.inside.image.now c.args.request.now.kind c.args.request.now.addr = search rules in
    let other : is_on c.self.inside.bus.phase ≡ true → 2 * c.in-Access.core + 1 ≢ c.self.inside.bus.master = search rules in
    rw (← c.self.view_is, c.perform.ensures.items)
    (answer-follows s c.self.invariant c.perform.new.caches.items c.in-Access.core c.args.request.now c.perform.result
    c.self.inside.history.spare below proper served other c.perform.ensures.touched c.perform.ensures.others c.perform.ensures.len)
