-- The first 4,097 bytes of a list have the answer of the whole list.
use Rattle.std.proofs.Common.{◌≡◌, ℕ, List, [], ◌∷◌, take, replicate}
use Rattle.paper.specs.Buffers.{ample}
use Rattle.paper.specs.Class.{classed_of, class_checks, class}
use Rattle.paper.specs.Listing.{refusal_line}
use Rattle.paper.specs.Refusals.{of_call}
use Rattle.paper.specs.Terms.{Terms}
use Rattle.lines.specs.Programs.{class_listing}
use Rattle.desk.proofs.Longer.{list_refused, list_refused_some, list_longer, only_refused, cut_short}
use Rattle.class.specs.Answer.{class_answer}

pub enough : (t : Terms) (list : List ℕ) → class_answer t (take 4097 list) ≡ class_answer t list
unfolding class_answer class
enough t = cut_short (class_answer t) 4096 (refusal_line (of_call (list_refused t))) (λ list long.
    only_refused (λ k. class_listing t list) (classed_of t list) (class_checks t list ample (replicate 512 0 ∷ [])) (list_refused t)
    (list_longer t list _ long) (list_refused_some t))
