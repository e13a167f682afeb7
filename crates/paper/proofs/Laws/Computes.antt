-- What is opened so that examples compute: every definition that a call, a listing or a saving goes through. A proof by computation says `unfolding computes`.
use Prim.Native.Nat.{ℕ}
use mathlib.Core.List.{flat_map, flatten, zip_with}
use lib.Ieee.{round}
use Rattle.paper.specs.Buffers.{laid, short, clock_slots, value_slots, filled, lacking}
use Rattle.paper.specs.Bytes.{text, two_bytes, four_bytes}
use Rattle.paper.specs.Chain.{first_that, learner, sender, walk, chain}
use Rattle.paper.specs.Class.{class, class_lamport}
use Rattle.paper.specs.Clock.{zero_clock, tick, merge}
use Rattle.paper.specs.Event.{is_sent_to, event_at, first_events}
use Rattle.paper.specs.Lamport.{no_scalars, taken_in, scaled, lamports_after}
use Rattle.paper.specs.Listing.{digits, decimal, word, words, event_words, event_line, event_lines, lamport_line, lamport_lines, head_line, listing, lamport_listing, refusal_line}
use Rattle.paper.specs.Machine.{start, member, in_queue, in_front, wrong_peer, wrong_number, shape, answer, front, rest, event_clock, accepted, offered, answers, clocked}
use Rattle.paper.specs.Marking.{is_right, marks, total, marking}
use Rattle.paper.specs.Order.{nothing, within, same, verdict}
use Rattle.paper.specs.Questions.{strict, strict_lamport, writing, comparing, chaining, comparing_sheet, chaining_sheet, ordering}
use Rattle.paper.specs.Reading.{header_checks, first_refused, begins, stamps_refused, read_of, reading, reading_lamport}
use Rattle.paper.specs.Savings.{sends, counts, saving, tallying, savings, stored, storing}
use Rattle.paper.specs.Sheet.{stamp_bytes, pieces, stamps_part, header, written}
use Rattle.paper.specs.Stamp.{mask, count, values, cut, no_stamp, differs, previous, stamp_of, stamps_after, upto}
use Rattle.paper.specs.Table.{at, at₂}

unfoldable pub computes : ℕ
unfolding flat_map flatten zip_with round laid short clock_slots value_slots filled lacking text two_bytes four_bytes first_that learner sender walk chain class class_lamport zero_clock tick merge is_sent_to event_at first_events no_scalars taken_in scaled lamports_after digits decimal word words event_words event_line event_lines lamport_line lamport_lines head_line listing lamport_listing refusal_line start member in_queue in_front wrong_peer wrong_number shape answer front rest event_clock accepted offered answers clocked is_right marks total marking nothing within same verdict strict strict_lamport writing comparing chaining comparing_sheet chaining_sheet ordering header_checks first_refused begins stamps_refused read_of reading reading_lamport sends counts saving tallying savings stored storing stamp_bytes pieces stamps_part header written mask count values cut no_stamp differs previous stamp_of stamps_after upto at at₂
computes = 0
