-- What a retraction leaves where its event waits in one queue, or in none
mod Retracting
-- What would be picked up stands first in its queue
mod Foreseen
