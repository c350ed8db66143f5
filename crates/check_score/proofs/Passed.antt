-- What the score check needs of a test that it has passed.
--     passed_tests   the words are there, and the head says no more than fits
use Rattle.words.proofs.Words.{words_length}
use Rattle.format.proofs.Decode.{sizes_few}
use Rattle.check_faults.proofs.Accepted.{length_accepted, count_accepted}

pub ruleset passed_tests = (words_length, sizes_few, length_accepted, count_accepted)
