-- A send, for every input: where the limits hold the stamp is cut, and elsewhere the record and the output stay.
use native.Mathlib.Omega.{arith}
use Rattle.record.proofs.Outcomes.{sent}
use Rattle.record.proofs.send.Goals as goal

pub returns : goal.returns
returns c =
    let a = c.args in
    rw c.wide-j.ensures.0 (sent a.running.now c.count.new.running a.from.0 a.to.0 a.n _ _ a.at a.out.now c.wide-count.ensures.0
    (record { clock = omega arith; updated = omega arith; sent = omega arith }) (record { clock = omega arith; updated = omega arith; sent = omega arith })
    c.in_ok-own.ensures (rw (c.is_roomy.ensures, c.wide-j.ensures.0) at c.if-j-n.false) (rw c.wide-j.ensures.0 at (c.gather-mask.ensures _ c.regrown-all.ensures)))
