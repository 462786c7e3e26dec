pub mod ClaimedTexts
