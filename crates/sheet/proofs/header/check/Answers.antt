-- The first check that holds decides.
use Rattle.sheet.proofs.Checks.{in_order}
use Rattle.sheet.proofs.header.check.Goals as goal

pub returns-then-is_wrong_length : goal.returns-then-is_wrong_length
returns-then-is_wrong_length c = rw (in_order c.requires, ← c.is_wrong_length.ensures, c.if-is_wrong_length.true)

pub returns-then-is_wrong_letters : goal.returns-then-is_wrong_letters
returns-then-is_wrong_letters c = rw (in_order c.requires, ← c.is_wrong_length.ensures, c.if-is_wrong_length.false, ← c.is_wrong_letters.ensures, c.if-is_wrong_letters.true)

pub returns-then-is_wrong_version : goal.returns-then-is_wrong_version
returns-then-is_wrong_version c = rw (in_order c.requires, ← c.is_wrong_length.ensures, c.if-is_wrong_length.false, ← c.is_wrong_letters.ensures, c.if-is_wrong_letters.false, ← c.is_wrong_version.ensures, c.if-is_wrong_version.true)

pub returns-then-is_wrong_count : goal.returns-then-is_wrong_count
returns-then-is_wrong_count c = rw (in_order c.requires, ← c.is_wrong_length.ensures, c.if-is_wrong_length.false, ← c.is_wrong_letters.ensures, c.if-is_wrong_letters.false, ← c.is_wrong_version.ensures, c.if-is_wrong_version.false, ← c.is_wrong_count.ensures, c.if-is_wrong_count.true)

pub returns-then-is_wrong_zeros : goal.returns-then-is_wrong_zeros
returns-then-is_wrong_zeros c = rw (in_order c.requires, ← c.is_wrong_length.ensures, c.if-is_wrong_length.false, ← c.is_wrong_letters.ensures, c.if-is_wrong_letters.false, ← c.is_wrong_version.ensures, c.if-is_wrong_version.false, ← c.is_wrong_count.ensures, c.if-is_wrong_count.false, ← c.is_wrong_zeros.ensures, c.if-is_wrong_zeros.true)

pub returns-then-is_wrong_list : goal.returns-then-is_wrong_list
returns-then-is_wrong_list c = rw (in_order c.requires, ← c.is_wrong_length.ensures, c.if-is_wrong_length.false, ← c.is_wrong_letters.ensures, c.if-is_wrong_letters.false, ← c.is_wrong_version.ensures, c.if-is_wrong_version.false, ← c.is_wrong_count.ensures, c.if-is_wrong_count.false, ← c.is_wrong_zeros.ensures, c.if-is_wrong_zeros.false, ← c.is_wrong_list.ensures, c.if-is_wrong_list.true)

pub returns-then-is_wrong_stamps : goal.returns-then-is_wrong_stamps
returns-then-is_wrong_stamps c = rw (in_order c.requires, ← c.is_wrong_length.ensures, c.if-is_wrong_length.false, ← c.is_wrong_letters.ensures, c.if-is_wrong_letters.false, ← c.is_wrong_version.ensures, c.if-is_wrong_version.false, ← c.is_wrong_count.ensures, c.if-is_wrong_count.false, ← c.is_wrong_zeros.ensures, c.if-is_wrong_zeros.false, ← c.is_wrong_list.ensures, c.if-is_wrong_list.false, ← c.is_wrong_stamps.ensures, c.if-is_wrong_stamps.true)

pub returns : goal.returns
returns c = rw (in_order c.requires, ← c.is_wrong_length.ensures, c.if-is_wrong_length.false, ← c.is_wrong_letters.ensures, c.if-is_wrong_letters.false, ← c.is_wrong_version.ensures, c.if-is_wrong_version.false, ← c.is_wrong_count.ensures, c.if-is_wrong_count.false, ← c.is_wrong_zeros.ensures, c.if-is_wrong_zeros.false, ← c.is_wrong_list.ensures, c.if-is_wrong_list.false, ← c.is_wrong_stamps.ensures, c.if-is_wrong_stamps.false)
