mod Words
mod LineAnswers
mod StopLaws
mod Grown
mod ToldRequests
mod Outcomes
