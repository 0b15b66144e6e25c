-- What a federate does is answered by records of its own, in turn
pub mod AnswerLemmas
-- How a run ends behind the reading of its texts, and whose transcripts are the history's
pub mod EndLemmas
-- What is told of lines of federates stays told
pub mod KeptLemmas
-- What the infrastructure itself did answers its lines, in turn
pub mod OfficeLemmas
-- What is told of the lines of federates is what records answer
pub mod RecordLemmas
-- Of whom it is told that nobody has joined under the name, of no line is it told that one has
pub mod StrangerLemmas
-- What all leave behind answers the lines of each name in turn
pub mod TurnLemmas
-- The end of a run: the whole history is accounted for
pub mod WholeLemmas
