-- `each_number`: each refusal number in each call that gives it, with its position and what all lent slots hold, by computation.
use mathlib.Core.Path.{refl}
use Rattle.paper.specs.Claims.EachNumber.{ClassNumbers, ListNumbers, ReadingNumbers, SheetNumbers, ClockNumbers, PrintedNumbers, EachNumber}
use Rattle.paper.proofs.Laws.Computes.{computes}

of_class : ClassNumbers
unfolding computes
of_class =
    record {
      three = refl;
      four = refl;
      four_many = refl;
      eight = refl;
      eight_many = refl;
      nine_clocks = refl;
      nine_masks = refl;
      nine_values = refl;
      nine_answers = refl;
      each_answer = refl;
      nine_lamport = refl;
      nine_asked = refl;
      numbered = refl;
    }

of_list : ListNumbers
unfolding computes
of_list =
    record {
      three = refl;
      four = refl;
      eight = refl;
      nine = refl;
      ten = refl;
      accepted = refl;
      three_lamport = refl;
      nine_lamport = refl;
      ten_lamport = refl;
      accepted_lamport = refl;
      three_written = refl;
      four_written = refl;
      eight_written = refl;
      nine_written = refl;
      ten_written = refl;
      twenty_one_written = refl;
      written_out = refl;
      three_compared = refl;
      four_compared = refl;
      eight_compared = refl;
      nine_compared = refl;
      ten_compared = refl;
      twenty_one_side = refl;
      twenty_other_side = refl;
      compared = refl;
      three_chained = refl;
      four_chained = refl;
      eight_chained = refl;
      nine_chained = refl;
      ten_chained = refl;
      twenty_chained = refl;
      twenty_two_chained = refl;
      twenty_one_chained = refl;
      chained = refl;
    }

of_reading : ReadingNumbers
unfolding computes
of_reading =
    record {
      one = refl;
      one_many = refl;
      two_first = refl;
      two_second = refl;
      two_third = refl;
      three = refl;
      three_high = refl;
      four = refl;
      four_many = refl;
      five = refl;
      five_other = refl;
      six_under = refl;
      six_past = refl;
      six_greater = refl;
      six_not_whole = refl;
      six_over = refl;
      seven_under = refl;
      seven_past = refl;
      seven_greater = refl;
      seven_shared = refl;
      nine_clocks = refl;
      nine_masks = refl;
      nine_values = refl;
      nine_lamport = refl;
      ten = refl;
      ten_lamport = refl;
      eighteen_mask = refl;
      eighteen_value = refl;
      eighteen_early = refl;
      nineteen = refl;
      nineteen_lamport = refl;
      read = refl;
      read_lamport = refl;
    }

of_sheet : SheetNumbers
unfolding computes
of_sheet =
    record {
      one_compared = refl;
      nine_compared = refl;
      ten_compared = refl;
      eighteen_compared = refl;
      twenty_one_side = refl;
      twenty_other_side = refl;
      compared = refl;
      one_chained = refl;
      nine_chained = refl;
      ten_chained = refl;
      eighteen_chained = refl;
      twenty_chained = refl;
      twenty_two_chained = refl;
      twenty_one_chained = refl;
      chained = refl;
      thirty = refl;
      thirty_many = refl;
      one_marked = refl;
      nine_marked = refl;
      ten_marked = refl;
      eighteen_marked = refl;
      twenty_one_marked = refl;
      marked = refl;
      one_tallied = refl;
      nine_tallied = refl;
      ten_tallied = refl;
      eighteen_tallied = refl;
      tallied = refl;
      one_saved = refl;
      eighteen_saved = refl;
      saved = refl;
      one_stored = refl;
      nine_stored = refl;
      ten_stored = refl;
      eighteen_stored = refl;
      twenty_one_stored = refl;
      stored_first = refl;
    }

of_clock : ClockNumbers
unfolding computes
of_clock =
    record {
      four_none = refl;
      four_many = refl;
      four_longer = refl;
      four_shorter = refl;
      below = refl;
      above = refl;
      neither = refl;
      equal = refl;
    }

of_printed : PrintedNumbers
unfolding computes
of_printed =
    record {
      nought = refl;
      ten = refl;
      largest_mask = refl;
      internal = refl;
      refusal = refl;
      two_thirds = refl;
      all = refl;
    }

pub each_number : EachNumber
each_number =
    record {
      in_class = of_class;
      on_a_list = of_list;
      in_reading = of_reading;
      on_a_sheet = of_sheet;
      on_clocks = of_clock;
      in_print = of_printed;
    }
