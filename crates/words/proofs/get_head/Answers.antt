use mathlib.Core.Path.{refl}
use Rattle.words.proofs.Ports.{head_fits}
use Rattle.words.proofs.get_head.Goals as goal

-- src/lib.rt:135:1
pub returns : goal.returns
returns c =
    let held = c.min-held.ensures in
    let announced = c.min-announced.ensures in
    let terms = c.terms_of.ensures in
    record {
      whole = rw (announced, held, terms) refl;
      fits = rw (announced, held, terms) (head_fits c.args.s.now);
      live = refl;
      held = held;
      wanted = refl;
      announced = rw (announced, held) refl;
    }
