-- The later position falls with each message crossed.
use Rattle.teaching.proofs.path.Course.+walk.Given as goal

abbrev pub decreases-walk : goal.decreases-walk
decreases-walk l = l.second.0
