-- The paper's line for one that was read.
use Rattle.paper.specs.Marking.{Line}
use Rattle.pupil.specs.declared.Line as declared

abbrev pub line : declared.Line → Line
line l = record { one = l.first.0; other = l.second.0; verdict = l.verdict }
