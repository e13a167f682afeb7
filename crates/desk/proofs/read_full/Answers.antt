use Rattle.std.proofs.Common.{rules, sym, subst}
use Rattle.std.specs.Io.KnownBytes.{Consumes}
use Rattle.std.proofs.KnownBytes.{Consumes-trans}
use Rattle.desk.proofs.Reading.{take-put_mid_more}
use Rattle.desk.proofs.read_full.Goals as goal

pub loop-done-preserved : goal.loop-done-preserved
loop-done-preserved g c =
    let front = take-put_mid_more _ _ c.in_ok-n.n _ _ c.loop-done.invariant.within c.in_ok-n.ensures.bound.0 in
    record {
      within = search rules;
      given = subst (Consumes _ _) (sym front) (Consumes-trans _ _ _ _ _ c.loop-done.invariant.given c.in_ok-n.ensures.bytes.0);
    }
