-- The first 4,097 bytes of a list have the answer of the whole list.
use Rattle.std.proofs.Common.{◌≡◌, ℕ, List, [], take}
use Rattle.paper.specs.Buffers.{ample}
use Rattle.paper.specs.Questions.{strict_checks}
use Rattle.paper.specs.Refusals.{of_call, refused}
use Rattle.paper.specs.Sheet.{written}
use Rattle.paper.specs.Terms.{Terms}
use Rattle.desk.proofs.Longer.{list_refused, list_refused_some, list_longer, call_refused, cut_short}
use Rattle.write.specs.Answer.{write_answer}

pub enough : (t : Terms) (list : List ℕ) → write_answer t (take 4097 list) ≡ write_answer t list
unfolding write_answer
enough t = cut_short (write_answer t) 4096 (refused (of_call (list_refused t))) (λ list long.
    call_refused (written t list) (strict_checks t list ample []) (list_refused t) (list_longer t list _ long) (list_refused_some t))
